-- The theorems speak of something: P12, "one command, 32", as a row of words; and a row that is refused.
use Rattle.std.specs.Prelude.{Some}
use Prim.Native.Nat.{ℕ, zero, suc, ◌≤◌}
use mathlib.Core.Path.{◌≡◌, refl, sym, ap, subst, ◌∙◌}
use mathlib.Core.List.{List, [], ◌∷◌, ◌++◌}
use mathlib.Core.Bool.{Bool, true, false}
use native.Mathlib.Omega.{arith}
use lib.ListN.{length, drop}
use lib.Dec.{ltb}
use borrow.Author.Tests.{ltb-true}
use Rattle.ber_integers.specs.Digits.{outcome}
use Rattle.ber_integers.proofs.Radix.{Below}
use Rattle.glow_rows.specs.Entry.{Rows}
use Rattle.glow_reader.specs.Message.{read_at}
use Rattle.base_choices.specs.Choices.{both}
use Rattle.base_choices.proofs.Laws.{both_left, both_right}
use Rattle.glow_trees.specs.Content.{Item, items_of, content_of, contents_of}
use Rattle.glow_trees.specs.Rows.{cells_from, entries_of, items_in}
use Rattle.glow_trees.specs.Trees.{flat, stands, taken_by, trees_of}
use Rattle.glow_trees.specs.Written.{written_real}
use Rattle.glow_trees.proofs.Vectors.{p12, p12-legal, p12-written}
use Rattle.glow_sizes.specs.Accepted.{octets_of, is_whole, accepted}
use Rattle.glow_writer.specs.Writes.{writes}
use Rattle.trees_round_trip.proofs.Writing.{whole-tree, octets-tree, fits_by, writes-yes, writes-any}
use Rattle.trees_round_trip.proofs.Rewriting.{in_rows}
use Rattle.trees_round_trip.specs.Claims.{ReadAs, ReadBack, written, Message}
use Rattle.trees_round_trip.proofs.Theorems.{written_read, read-accepted, accepted-rows}

abbrev pub zeros : ℕ → List ℕ
zeros zero = []
zeros (suc n) = 0 ∷ zeros n

-- kind 2, a command, at parent 0, with the integer 32 in its first cell and fifteen cells that are absent
abbrev pub table : Rows
table = (2 ∷ 0 ∷ 2 ∷ 32 ∷ 0 ∷ zeros 45) ∷ []

abbrev pub message : List ℕ
message = 0x60 ∷ 0x0B ∷ 0x6B ∷ 0x09 ∷ 0xA0 ∷ 0x07 ∷ 0x62 ∷ 0x05 ∷ 0xA0 ∷ 0x03 ∷ 0x02 ∷ 0x01 ∷ 0x20 ∷ []

abbrev pub es : List Item
es = items_in [] table 1

p12-items : es ≡ flat 0 0 p12
unfolding items_in entries_of cells_from items_of contents_of content_of flat
p12-items = refl

p12-octets : octets_of written_real 0 es ≡ message
p12-octets = octets-tree 0 p12 p12-legal es p12-items written_real ∙ p12-written

-- It is written, into any output of 13 bytes or more,
pub p12-writes : (out : List ℕ) → 13 ≤ length out → written [] table 1 0 out ≡ outcome (Some 13) (message ++ drop 13 out)
p12-writes out h =
    let n : length (octets_of written_real 0 es) ≡ 13 = ap length p12-octets in
    let f = fits_by written_real 0 1 1 es
    (record { within = omega arith; most = omega arith; whole = whole-tree 0 p12 p12-legal es p12-items; few = omega arith }) in
    writes-yes 0 1 1 es out f (omega arith)
    ∙ ap (λ (k : ℕ). outcome (Some k) (octets_of written_real 0 es ++ drop k out)) n
    ∙ ap (λ (l : List ℕ). outcome (Some 13) (l ++ drop 13 out)) p12-octets

-- and read back (1), into any table of a row or more.
pub p12-back : ReadBack message 0 1 es
p12-back = written_read [] table 1 0 message 13 message (p12-writes message (omega arith))

abbrev small : List ℕ → Bool
small [] = true
small (x ∷ xs) = both (ltb x 256) (small xs)

below_by : (l : List ℕ) → small l ≡ true → Below 256 l
below_by [] e = tt
below_by (x ∷ xs) e = (ltb-true x 256 (both_left (ltb x 256) _ e), below_by xs (both_right (ltb x 256) _ e))

octet : Below 256 message
octet = below_by message refl

p12-read : ReadAs message table 0 1 es
p12-read = p12-back table (omega arith) (omega arith)

-- The message is read, and what is read is written again (2): the same bytes, in a sufficient output.
pub p12-again : (out : List ℕ) → 13 ≤ length out → written message (read_at message table).rows 1 0 out ≡ outcome (Some 13) (message ++ drop 13 out)
p12-again out h =
    let rows = (read_at message table).rows in
    ap (λ (x : List Item). writes 0 (length rows) 1 x out) p12-read.entries
    ∙ writes-any 0 (length rows) 1 es out 1 (in_rows message table p12-read.answer).0 (omega arith)
    ∙ p12-writes out h

-- The test says yes (5), and there is the message;
pub p12-accepted : accepted 0 es ≡ true
p12-accepted = subst (λ (x : List Item). accepted 0 x ≡ true) p12-read.entries (read-accepted message octet table 0 1 p12-read.answer)

pub p12-message : Message 0 es
p12-message = (accepted-rows [] tt table 1 0).0 p12-accepted

-- it says no of the same entry under a parent that does not stand before it, and so no message is read as that.
abbrev pub orphan : Rows
orphan = (2 ∷ 1 ∷ 2 ∷ 32 ∷ 0 ∷ zeros 45) ∷ []

pub orphan-not : accepted 0 (items_in [] orphan 1) ≡ false
unfolding accepted is_whole trees_of taken_by stands items_in entries_of cells_from items_of contents_of content_of
orphan-not = refl

pub orphan-none : Message 0 (items_in [] orphan 1) → ⊥
orphan-none m = let e = sym orphan-not ∙ (accepted-rows [] tt orphan 1 0).1 m in let z : ◌≡◌ {A = ℕ} 0 1 = cc in omega arith
