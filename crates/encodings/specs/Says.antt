-- What the content octets of a primitive value say, by its universal number (document 01, "Values"; X.690 8.2, 8.3, 8.5, 8.20).
use Rattle.std.specs.Prelude.{ℕ, ◌≤◌, ◌<◌, ◌≡◌, List, [], ◌∷◌, ◌++◌, length, Float}
use Rattle.std.specs.Float.Ieee as Ieee
use Rattle.std.specs.Float.{binary64}
use Rattle.ber_integers.specs.Integer.{signed, nine}
use Rattle.ber_reals.specs.Means.{Means}
use Rattle.glow_rows.specs.Cell as tag
use Rattle.glow_rows.specs.Cell.{word_of}
use Rattle.glow_trees.specs.Content.{Content, word, bytes}
use Rattle.encodings.specs.Values.{Fewest}

-- "first nine bits not all equal"
abbrev pub NineDiffer : List ℕ → Type 0
NineDiffer [] = Unit {0}
NineDiffer (a ∷ []) = Unit {0}
NineDiffer (a ∷ (b ∷ bs)) = (nine a b ≡ 0 → ⊥) × (nine a b ≡ 511 → ⊥)

-- Says type content x: the content octets of a value with this universal number say x.
pub data Says : ℕ → List ℕ → Content → Type 0 where
  -- "Booleans: one octet, non-zero is true"
  untrue : Says tag.boolean (0 ∷ []) (word tag.boolean 0)
  truth : {b : ℕ} → 0 < b → Says tag.boolean (b ∷ []) (word tag.boolean 1)
  -- "Integers: 1 to 8 octets, two's complement, first nine bits not all equal"
  integer : {bs : List ℕ} → 1 ≤ length bs → length bs ≤ 8 → NineDiffer bs → Says tag.integer bs (word tag.integer (word_of (signed bs)))
  -- "Reals: .. Accepted exactly if some finite double equals it", and the infinities
  real : {bs : List ℕ} (x : Float) → Means bs x → Says tag.real bs (word tag.real (Ieee.to_bits binary64 x))
  -- octets, texts and relative identifiers are their octets
  octets : {bs : List ℕ} → Says tag.octets bs (bytes tag.octets bs)
  text : {bs : List ℕ} → Says tag.text bs (bytes tag.text bs)
  identifier : {bs : List ℕ} → Says tag.numbers bs (bytes tag.numbers bs)

-- "Relative identifiers: each number in fewest octets, at most 2,147,483,647": the octets of an identifier, and its numbers
pub data Numbers : List ℕ → List ℕ → Type 0 where
  none : Numbers [] []
  number : {bs cs ns : List ℕ} {n : ℕ} → Fewest bs n → n ≤ 2147483647 → Numbers cs ns → Numbers (bs ++ cs) (n ∷ ns)
