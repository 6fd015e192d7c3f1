-- The theorems of the tree writer (document 01, demand 2: "What we write, we read back as the same tree"), for all rows, counts, messages and outputs.
-- They speak of what the code is proved to answer: `read_at` (glow_reader::read), `writes` (glow_writer) and `accepted` (glow_sizes).
-- Trees are compared by the content of their entries: `items_in s rows count` are those of the first `count` rows, with the message s beside them.
use Rattle.std.specs.Prelude.{Some, None}
use Prim.Native.Nat.{ℕ, zero, suc, ◌≤◌, ◌<◌}
use mathlib.Core.Path.{◌≡◌, refl, sym, ap, subst, ◌∙◌}
use mathlib.Core.List.{List, [], ◌∷◌, ◌++◌}
use mathlib.Core.Bool.{true}
use mathlib.Core.Logic.{◌⊎◌, inl, inr, ⊎_elim}
use native.Mathlib.Omega.{arith}
use lib.ListN.{length, take, drop, length-append, length-drop}
use lib.Seq.{take_at, drop_at}
use Rattle.ber_integers.specs.Digits.{Below, outcome, unchanged}
use Rattle.glow_rows.specs.Entry.{Rows}
use Rattle.glow_reader.specs.declared.Answer.TheVariants.{Read}
use Rattle.glow_reader.specs.Message.{read_at}
use Rattle.glow_trees.specs.Content.{Item}
use Rattle.glow_trees.specs.Rows.{items_in}
use Rattle.glow_trees.specs.Written.{written_real}
use Rattle.trees_read_back.proofs.ReadBack.{written-spells}
use Rattle.glow_member_sizes.specs.Spelling.{least_real}
use Rattle.glow_sizes.specs.Accepted.{octets_of, accepted, fits, length_of}
use Rattle.glow_writer.specs.Writes.{writes}
use Rattle.trees_round_trip.specs.Claims.{ReadAs, ReadBack, written, Message}
use Rattle.trees_round_trip.proofs.Reals.{least-spells}
use Rattle.trees_round_trip.proofs.Rows.{items-count}
use Rattle.trees_round_trip.proofs.Octets.{Octets, rows-octets}
use Rattle.trees_round_trip.proofs.Writing.{whole-read, told, fitting, fits_by, length-fits, fits-length}
use Rattle.trees_round_trip.proofs.Writing.{writes-any, accepting, accepted-by, least-octets}
use Rattle.trees_round_trip.proofs.Rewriting.{in_rows, rewritten, read-accepting}

module _ (s : List ℕ) (rows : Rows) (count root : ℕ) (out : List ℕ) where
  -- 1. What is written is read back, into any table that has room, as the same tree;
  pub written_read : (n : ℕ) (out' : List ℕ) → written s rows count root out ≡ outcome (Some n) out'
      → ReadBack (take n out') root count (items_in s rows count)
  written_read n out' h table room most =
      let es = items_in s rows count in
      let bs = octets_of written_real root es in
      let t = told root (length rows) count es out (Some n) out' h in
      let f = fitting written_real root (length rows) count es t.0 in
      let c : length es ≡ count = items-count s rows count f.within in
      let r = whole-read written_real written-spells root es f.whole f.few table (omega arith) most in
      let b : bs ≡ take n out' = sym (ap (take n) t.1.1.1 ∙ take_at bs (drop n out) n (sym t.1.0)) in
      subst (λ (m : List ℕ). ReadAs m table root count es) b
      (subst (λ (k : ℕ). ReadAs bs table root k es) c (record { answer = r.0; entries = r.1 }))

  -- it has at most 16,384 bytes, and the output past it is as it was;
  pub written-past : (n : ℕ) (out' : List ℕ) → written s rows count root out ≡ outcome (Some n) out'
      → (n ≤ 16384) × ((length out' ≡ length out) × (drop n out' ≡ drop n out))
  written-past n out' h =
      let es = items_in s rows count in
      let bs = octets_of written_real root es in
      let t = told root (length rows) count es out (Some n) out' h in
      let few = (fitting written_real root (length rows) count es t.0).few in
      let k = t.1.0 in
      let room = t.1.1.0 in
      let a = ap length t.1.1.1 in
      let b = length-append bs (drop n out) in
      let d = length-drop n out in
      (omega arith, (omega arith, ap (drop n) t.1.1.1 ∙ drop_at bs (drop n out) n (sym k)))

  -- and a refusal, 46, leaves the whole output as it was.
  pub refused-unchanged : (out' : List ℕ) → written s rows count root out ≡ outcome None out' → out' ≡ out
  refused-unchanged out' h = (told root (length rows) count (items_in s rows count) out None out' h).0

module _ (s : List ℕ) (octets : Below 256 s) (table : Rows) (root count : ℕ) (h : (read_at s table).answer ≡ Read root count) where
  -- the rows after reading, and the message that is written of them
  abbrev rows' : Rows
  rows' = (read_at s table).rows

  abbrev bytes' : List ℕ
  bytes' = octets_of written_real root (items_in s rows' count)

  -- 2. What is read can be written, unless that message passes 16,384 bytes or the output; and then it is read back as the same tree.
  pub read-written : (out : List ℕ)
      → ((written s rows' count root out ≡ unchanged out) × ((16384 < length bytes') ⊎ (length out < length bytes')))
      ⊎ ((n : ℕ) × ((out' : List ℕ) × ((written s rows' count root out ≡ outcome (Some n) out') × ReadBack (take n out') root count (items_in s rows' count))))
  read-written out =
      let n = length bytes' in
      let out' = bytes' ++ drop n out in
      ⊎_elim inl (λ (e : written s rows' count root out ≡ outcome (Some n) out'). inr (n, (out', (e, written_read s rows' count root out n out' e))))
      (rewritten s octets table root count h out)

  -- 3. What is read passes the test.
  pub read-accepted : accepted root (items_in s rows' count) ≡ true
  read-accepted = accepted-by root (items_in s rows' count) (read-accepting s octets table root count h)

-- 4. Of two messages that are read as the same tree, the writer gives the same bytes.
pub same_bytes : (s s' : List ℕ) (table table' : Rows) (root count : ℕ) (es : List Item) → ReadAs s table root count es → ReadAs s' table' root count es
    → (out : List ℕ) → written s (read_at s table).rows count root out ≡ written s' (read_at s' table').rows count root out
same_bytes s s' table table' root count es a b out =
    let rows = (read_at s table).rows in
    let rows' = (read_at s' table').rows in
    ap (λ (x : List Item). writes root (length rows) count x out) (a.entries ∙ sym b.entries)
    ∙ writes-any root (length rows) count (items_in s' rows' count) out (length rows') (in_rows s table a.answer).0 (in_rows s' table' b.answer).0

-- a table of so many rows
table_of : (n : ℕ) → (table : Rows) × (length table ≡ n)
table_of zero = ([], refl)
table_of (suc n) = let t = table_of n in ([] ∷ t.0, ap suc t.1)

-- 5. The test is exact: it says yes exactly if there is such a message (`Message`).
-- `Octets es`: texts, octets, paths and sources are octets, else no message could hold them. Those of rows, parts of a message of octets, are.
pub accepted-exactly : (root : ℕ) (es : List Item) → Octets es → (accepted root es ≡ true → Message root es) × (Message root es → accepted root es ≡ true)
accepted-exactly root es o = (yes, no)
  where
    yes : accepted root es ≡ true → Message root es
    yes e =
        let a = accepting root es e in
        let most = a.most in
        record {
          message = octets_of least_real root es;
          octets = least-octets root es a o;
          few = a.few;
          read = λ table n.
              let r = whole-read least_real least-spells root es a.whole a.few table (omega arith) (omega arith) in
              record { answer = r.0; entries = r.1 };
        }

    no : Message root es → accepted root es ≡ true
    no m =
        let t = table_of 256 in
        let r = m.read t.0 t.1 in
        subst (λ (x : List Item). accepted root x ≡ true) r.entries (read-accepted m.message m.octets t.0 root (length es) r.answer)

pub accepted-rows : (s : List ℕ) → Below 256 s → (rows : Rows) (count root : ℕ)
    → (accepted root (items_in s rows count) ≡ true → Message root (items_in s rows count))
    × (Message root (items_in s rows count) → accepted root (items_in s rows count) ≡ true)
accepted-rows s octets rows count root = accepted-exactly root (items_in s rows count) (rows-octets s octets rows count)

-- It is what the code measures, reals in the fewest octets: at most 16,384, and not 65,536, exactly of rows that are there and pass the test.
pub accepted-measured : (s : List ℕ) (rows : Rows) (count root : ℕ)
    → ((count ≤ length rows) × (accepted root (items_in s rows count) ≡ true) → length_of least_real root (length rows) count (items_in s rows count) ≤ 16384)
    × (length_of least_real root (length rows) count (items_in s rows count) ≤ 16384 → (count ≤ length rows) × (accepted root (items_in s rows count) ≡ true))
accepted-measured s rows count root =
    let es = items_in s rows count in (
      λ h.
          let a = accepting root es h.1 in
          let l = h.0 in
          let c = items-count s rows count h.0 in
          let m = a.most in
          length-fits least_real root (length rows) count es
          (fits_by least_real root (length rows) count es (record { within = h.0; most = omega arith; whole = a.whole; few = a.few })),
      λ h.
          let f = fitting least_real root (length rows) count es (fits-length least_real root (length rows) count es h) in
          let c = items-count s rows count f.within in
          let m = f.most in
          (f.within, accepted-by root es (record { most = omega arith; whole = f.whole; few = f.few })),
    )

-- What `is_tree` answers (glow_sizes: `fits least_real`): yes exactly if the rows are there, and some message of at most 16,384 bytes is read as exactly
-- their entries.
pub is-tree-exactly : (s : List ℕ) → Below 256 s → (rows : Rows) (count root : ℕ)
    → (fits least_real root (length rows) count (items_in s rows count) ≡ true → (count ≤ length rows) × Message root (items_in s rows count))
    × ((count ≤ length rows) × Message root (items_in s rows count) → fits least_real root (length rows) count (items_in s rows count) ≡ true)
is-tree-exactly s octets rows count root =
    let es = items_in s rows count in
    let x = accepted-rows s octets rows count root in
    let m = accepted-measured s rows count root in (
      λ h. let y = m.1 (length-fits least_real root (length rows) count es h) in (y.0, x.0 y.1),
      λ h. fits-length least_real root (length rows) count es (m.0 (h.0, x.1 h.1)),
    )
