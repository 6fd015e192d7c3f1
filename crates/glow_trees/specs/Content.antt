-- A member of an entry by content: "Trees compare texts, octets and sources by content."
use Rattle.std.specs.Prelude.{ℕ, ◌+◌, List, [], ◌∷◌, Bool, true, length, take, drop, leb, ltb, eqb}
use Rattle.base_choices.specs.Choices.{pick}
use Rattle.glow_rows.specs.declared.Cell.{Cell}
use Rattle.glow_rows.specs.Cell.{boolean, integer, octets, real, text, numbers}
-- the integer that 64 bits stand for, in two's complement
unfoldable pub use Rattle.glow_rows.specs.Cell.{int_of}
use Rattle.glow_rows.specs.Entry.{Entry, Entries}

-- the universal tag number of a value, and what it holds
pub data Content : Type 0 where
  nothing : Content  -- an absent member
  word : ℕ → ℕ → Content  -- a boolean (1), an integer (2) or a real (9), as 64 bits
  bytes : ℕ → List ℕ → Content  -- octets (4), a text (12) or a relative identifier (13): a path or sources
  wrong : Content  -- words that are no member's

abbrev pub is_part : ℕ → Bool
is_part kind = pick (eqb kind octets) true (pick (eqb kind text) true (eqb kind numbers))

abbrev pub is_word : ℕ → Bool
is_word kind = pick (eqb kind boolean) true (pick (eqb kind integer) true (eqb kind real))

-- What a cell says, with the message beside it: "a part that does not lie in the message makes no tree".
unfoldable pub content_of : List ℕ → Cell → Content
content_of s v =
    pick (is_part v.kind) (pick (leb (v.first + v.second) (length s)) (bytes v.kind (take v.second (drop v.first s))) wrong)
    (pick (is_word v.kind) (pick (eqb v.second 0) (pick (ltb v.first 18446744073709551616) (word v.kind v.first) wrong) wrong)
    (pick (eqb v.kind 0) (pick (eqb v.first 0) (pick (eqb v.second 0) nothing wrong) wrong) wrong))

unfoldable pub contents_of : List ℕ → List Cell → List Content
contents_of s [] = []
contents_of s (v ∷ vs) = content_of s v ∷ contents_of s vs

-- An entry by content.
pub record Item : Type 0 where
  pub kind : ℕ
  pub parent : ℕ
  pub members : List Content

abbrev pub item : ℕ → ℕ → List Content → Item
item kind parent members = record { kind = kind; parent = parent; members = members }

abbrev pub item_of : List ℕ → Entry → Item
item_of s e = item e.kind e.parent (contents_of s e.cells)

unfoldable pub items_of : List ℕ → Entries → List Item
items_of s [] = []
items_of s (e ∷ es) = item_of s e ∷ items_of s es
