-- What is read can be written, and passes the test.
use Rattle.std.specs.Prelude.{Some}
use Prim.Native.Nat.{ℕ, ◌≤◌, ◌<◌}
use mathlib.Core.Path.{◌≡◌, refl, sym, subst}
use mathlib.Core.List.{List, ◌++◌}
use mathlib.Core.Bool.{true, false}
use mathlib.Core.Logic.{◌⊎◌, inl, inr, ⊎_elim}
use native.Mathlib.Omega.{arith}
use borrow.Author.Tests.{le-leb, lt-leb}
use lib.ListN.{length, drop}
use Rattle.ber_integers.specs.Digits.{outcome, unchanged}
use Rattle.ber_integers.proofs.Radix.{Below, lt-or-le}
use Rattle.glow_rows.specs.Entry.{Rows}
use Rattle.glow_reader.specs.declared.Answer.TheVariants.{Read}
use Rattle.glow_reader.specs.Message.{read_at}
use Rattle.glow_reader.proofs.Answers.{rows-kept, count-bounded}
use Rattle.glow_trees.specs.Content.{Item}
use Rattle.glow_trees.specs.Rows.{items_in}
use Rattle.glow_trees.specs.Written.{written_real}
use Rattle.glow_member_sizes.specs.Spelling.{least_real}
use Rattle.glow_sizes.specs.Accepted.{is_whole, octets_of, fits}
use Rattle.glow_writer.specs.Writes.{writes}
use Rattle.trees_round_trip.proofs.Rows.{items-count}
use Rattle.trees_round_trip.proofs.Reading.{tree-read}
use Rattle.trees_round_trip.proofs.Writing.{whole-tree, octets-tree, fits_by, writes-no, writes-yes, writes_short, Accepting}

-- there are as many rows as entries read, and at most 256
pub in_rows : (s : List ℕ) (table : Rows) {root count : ℕ} → (read_at s table).answer ≡ Read root count
    → (count ≤ length (read_at s table).rows) × (count ≤ 256)
in_rows s table h =
    let b = count-bounded s table h in
    let c = b.0 in
    let d = b.1 in
    let k = rows-kept s table in
    (omega arith, omega arith)

module _ (s : List ℕ) (octets : Below 256 s) (table : Rows) (root count : ℕ) (h : (read_at s table).answer ≡ Read root count) where
  abbrev rows : Rows
  rows = (read_at s table).rows

  abbrev es : List Item
  es = items_in s rows count

  abbrev bs : List ℕ
  bs = octets_of written_real root es

  within : count ≤ length rows
  within = (in_rows s table h).0

  most : count ≤ 256
  most = (in_rows s table h).1

  is-whole : is_whole root es ≡ true
  is-whole = let r = tree-read s octets table root count h in whole-tree root r.tree r.legals es r.items

  too_long : 16384 < length bs → fits written_real root (length rows) count es ≡ false
  unfolding fits
  too_long l = rw (le-leb _ _ within, le-leb _ _ most, is-whole, lt-leb _ _ l) refl

  not-long : length bs ≤ 16384 → fits written_real root (length rows) count es ≡ true
  not-long l = fits_by written_real root (length rows) count es (record { within = within; most = most; whole = is-whole; few = l })

  -- refused for its length alone, or written
  pub rewritten : (out : List ℕ)
      → ((writes root (length rows) count es out ≡ unchanged out) × ((16384 < length bs) ⊎ (length out < length bs)))
      ⊎ (writes root (length rows) count es out ≡ outcome (Some (length bs)) (bs ++ drop (length bs) out))
  rewritten out =
      ⊎_elim (λ (l : 16384 < length bs). inl (writes-no root (length rows) count es out (too_long l), inl l))
      (λ (l : length bs ≤ 16384).
      ⊎_elim (λ (k : length out < length bs). inl (writes_short root (length rows) count es out (not-long l) k, inr k))
      (λ (k : length bs ≤ length out). inr (writes-yes root (length rows) count es out (not-long l) k))
      (lt-or-le (length out) (length bs)))
      (lt-or-le 16384 (length bs))

  pub read-accepting : Accepting root es
  read-accepting =
      let r = tree-read s octets table root count h in
      let c = items-count s rows count within in
      let m = most in
      record {
        most = omega arith;
        whole = is-whole;
        few = subst (λ (l : List ℕ). length l ≤ 16384) (sym (octets-tree root r.tree r.legals es r.items least_real)) r.size;
      }
