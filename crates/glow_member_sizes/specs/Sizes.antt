-- Sizes of what is written. A size over the longest message's is one number, and so is the size of what is not legal.
use Rattle.std.specs.Prelude.{ℕ, ◌+◌, ◌≡◌, List, Bool, true, false, length, leb, eqb, Option, Some, None}
use Rattle.base_choices.specs.Choices.{pick}
use Rattle.ber_tags.specs.Write.{length_octets}
use Rattle.glow_grammar.specs.declared.Leaf.{Leaf}
use Rattle.glow_grammar.specs.declared.Leaf.TheVariants.{Kept, Refused as Not}
use Rattle.glow_rows.specs.Cell.{boolean, integer}
use Rattle.glow_trees.specs.Content.{Content}
use Rattle.glow_trees.specs.Legal.{is_real, suits}
use Rattle.glow_trees.specs.Written.{spelled, member_octets}

abbrev pub message_limit : ℕ
message_limit = 16384

abbrev pub no_size : ℕ
no_size = 65536

unfoldable pub cap : ℕ → ℕ
cap n = pick (leb n message_limit) n no_size

-- a tag of one octet, its length and n octets
unfoldable pub tagged_size : ℕ → ℕ
tagged_size n = 1 + (length (length_octets n) + n)

abbrev pub next_of : Option ℕ → ℕ
next_of (Some n) = n
next_of None = 0

-- the content octets of a boolean, an integer, or a real that is written
abbrev pub WordSized : (ℕ → List ℕ) → ℕ → ℕ → ℕ → Type 0
WordSized real kind w n = pick (eqb kind boolean) true (pick (eqb kind integer) true (is_real w)) ≡ true → length (spelled real kind w) ≡ n

-- whether a value is kept
abbrev pub is_kept : Leaf → Bool
is_kept (Kept v n) = true
is_kept (Not number place) = false

-- a member by its rule
unfoldable pub member_size : (ℕ → List ℕ) → ℕ → Content → ℕ
member_size real what x = pick (suits what x) (cap (length (member_octets real 0 x))) no_size
