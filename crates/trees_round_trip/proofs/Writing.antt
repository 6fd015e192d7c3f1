-- What the writer's answers say; and the message of entries that make a whole tree is read as these entries.
use Rattle.std.specs.Prelude.{Option, Some, None}
use Prim.Native.Nat.{ℕ, ◌+◌, ◌≤◌, ◌<◌}
use mathlib.Core.Path.{◌≡◌, refl, sym, ap, subst, ◌∙◌}
use mathlib.Core.List.{List, [], ◌∷◌, ◌++◌}
use mathlib.Core.Bool.{Bool, true, false}
use mathlib.Core.Logic.{◌⊎◌, inl, inr}
use native.Mathlib.Omega.{arith}
use borrow.Author.Tests.{leb-true, leb-false, le-leb, lt-leb}
use lib.ListN.{length, drop}
use lib.Dec.{leb}
use Rattle.base_choices.specs.Choices.{pick}
use Rattle.base_choices.proofs.Laws.{pick-by, both_left, both_right, both-make}
use Rattle.ber_integers.specs.Digits.{Put, outcome, put, unchanged}
use Rattle.ber_integers.proofs.Radix.{Below}
use Rattle.glow_rows.specs.Entry.{Entries, Rows, overlay}
use Rattle.glow_reader.specs.declared.Answer.TheVariants.{Read}
use Rattle.glow_reader.specs.Message.{Result, read_at}
use Rattle.glow_trees.specs.Content.{Item, items_of}
use Rattle.glow_trees.specs.Rows.{items_in}
use Rattle.glow_trees.specs.Trees.{Trees, count, flat, Taken, taken, trees_of}
use Rattle.glow_trees.specs.Legal.{legal_root}
use Rattle.glow_trees.specs.Written.{message_octets, written_real}
use Rattle.trees_read_back.proofs.Bools.{never}
use Rattle.trees_read_back.proofs.Leaves.{Spells}
use Rattle.trees_accepted.proofs.Lists.{flat-length}
use Rattle.trees_read_back.proofs.ReadBack.{read_back}
use Rattle.trees_accepted.proofs.Once.{made_again}
use Rattle.glow_member_sizes.specs.Spelling.{least_real}
use Rattle.glow_sizes.specs.Accepted.{is_end, is_whole, octets_of, accepted, fits, length_of}
use Rattle.glow_writer.specs.Writes.{writes}
use Rattle.trees_round_trip.proofs.Reals.{least-below}
use Rattle.trees_round_trip.proofs.Whole.{taken-whole}
use Rattle.trees_round_trip.proofs.Rows.{rows-items, tree-sixteen}
use Rattle.trees_round_trip.proofs.Octets.{Octets, message-below}

-- ---- whole trees

is-end : (es : List Item) → is_end es ≡ true → es ≡ []
is-end [] e = refl
is-end (x ∷ es) e = never e

-- entries that make one tree of the grammar are the entries of that tree,
pub record Made (root : ℕ) (es : List Item) : Type 0 where
  pub legals : legal_root root (trees_of root es).trees ≡ true
  pub entries : flat 0 0 (trees_of root es).trees ≡ es
  pub counts : count (trees_of root es).trees ≡ length es

pub made : (root : ℕ) (es : List Item) → is_whole root es ≡ true → Made root es
unfolding is_whole
made root es e =
    let t = (trees_of root es).trees in
    let f : flat 0 0 t ≡ es = taken-whole root es (is-end (trees_of root es).rest (both_left (is_end (trees_of root es).rest) _ e)) in
    record {
      legals = both_right (is_end (trees_of root es).rest) _ e;
      entries = f;
      counts = sym (flat-length 0 0 t) ∙ ap length f;
    }

-- and the entries of a legal tree make it
module _ (root : ℕ) (t : Trees) (right : legal_root root t ≡ true) (es : List Item) (e : es ≡ flat 0 0 t) where
  made-from : trees_of root es ≡ taken t []
  made-from = ap (trees_of root) e ∙ made_again root t right

  pub whole-tree : is_whole root es ≡ true
  unfolding is_whole
  whole-tree =
      both-make (is_end (trees_of root es).rest) (legal_root root (trees_of root es).trees)
      (ap (λ (x : Taken). is_end x.rest) made-from)
      (ap (λ (x : Taken). legal_root root x.trees) made-from ∙ right)

  pub octets-tree : (real : ℕ → List ℕ) → octets_of real root es ≡ message_octets real root t
  unfolding octets_of
  octets-tree real = ap (λ (x : Taken). message_octets real root x.trees) made-from

-- The message of a whole tree, in any spelling of reals, is read as its entries.
pub whole-read : (real : ℕ → List ℕ) → Spells real → (root : ℕ) (es : List Item) → is_whole root es ≡ true → length (octets_of real root es) ≤ 16384
    → (table : Rows) → length es ≤ length table → length table ≤ 256
    → ((read_at (octets_of real root es) table).answer ≡ Read root (length es))
    × (items_in (octets_of real root es) (read_at (octets_of real root es) table).rows (length es) ≡ es)
unfolding octets_of
whole-read real spells root es whole few table room most =
    let t = (trees_of root es).trees in
    let m = message_octets real root t in
    let w = made root es whole in
    let n = w.counts in
    let r = read_back real spells root t w.legals few table most (omega arith) in
    let es' : Entries = r.0 in
    let got : items_of m es' ≡ flat 0 0 t = r.1.1.0 in
    let l : length es' ≡ length es = r.1.1.1 ∙ n in
    let fit : length es' ≤ length table = omega arith in (
      ap (λ (x : Result). x.answer) r.1.0 ∙ ap (Read root) n,
      ap (λ (x : Result). items_in m x.rows (length es)) r.1.0
          ∙ ap (items_in m (overlay es' table)) (sym l)
          ∙ rows-items m es' table (tree-sixteen m es' root t w.legals got) fit
          ∙ got
          ∙ w.entries,
    )

-- ---- the writer's answers

module _ (root rows n : ℕ) (es : List Item) (out : List ℕ) where
  abbrev bs : List ℕ
  bs = octets_of written_real root es

  abbrev Tells : Option ℕ → List ℕ → Type 0
  Tells (Some k) out' = (fits written_real root rows n es ≡ true) × ((k ≡ length bs) × ((k ≤ length out) × (out' ≡ bs ++ drop k out)))
  Tells None out' = (out' ≡ out) × ((fits written_real root rows n es ≡ false) ⊎ (length out < length bs))

  tells : Tells (writes root rows n es out).answer (writes root rows n es out).out
  unfolding writes put
  tells =
      let z : 0 + length bs ≡ length bs = omega arith in
      pick-by (λ (x : Put). Tells x.answer x.out) (fits written_real root rows n es)
      (λ e.
      pick-by (λ (x : Put). Tells x.answer x.out) (leb (0 + length bs) (length out))
      (λ f. (e, (z, (leb-true _ _ f, refl))))
      (λ f. let l = leb-false (0 + length bs) (length out) f in (refl, inr (omega arith))))
      (λ e. (refl, inl e))

  pub told : (r : Option ℕ) (out' : List ℕ) → writes root rows n es out ≡ outcome r out' → Tells r out'
  told r out' h = subst (λ (x : Put). Tells x.answer x.out) h tells

-- the parts of the test
pub record Fitting (real : ℕ → List ℕ) (root rows n : ℕ) (es : List Item) : Type 0 where
  pub within : n ≤ rows
  pub most : n ≤ 256
  pub whole : is_whole root es ≡ true
  pub few : length (octets_of real root es) ≤ 16384

module _ (real : ℕ → List ℕ) (root rows n : ℕ) (es : List Item) where
  pub fitting : fits real root rows n es ≡ true → Fitting real root rows n es
  unfolding fits
  fitting e0 =
      let e1 = both_right (leb n rows) _ e0 in
      let e2 = both_right (leb n 256) _ e1 in
      record {
        within = leb-true _ _ (both_left (leb n rows) _ e0);
        most = leb-true _ _ (both_left (leb n 256) _ e1);
        whole = both_left (is_whole root es) _ e2;
        few = leb-true _ _ (both_right (is_whole root es) _ e2);
      }

  pub fits_by : Fitting real root rows n es → fits real root rows n es ≡ true
  unfolding fits
  fits_by f = both-make _ _ (le-leb _ _ f.within) (both-make _ _ (le-leb _ _ f.most) (both-make _ _ f.whole (le-leb _ _ f.few)))

  -- the length where it fits, else 65,536
  pub length-fits : fits real root rows n es ≡ true → length_of real root rows n es ≤ 16384
  unfolding length_of
  length-fits e = let f = fitting e in rw e f.few

  pub fits-length : length_of real root rows n es ≤ 16384 → fits real root rows n es ≡ true
  unfolding length_of
  fits-length = go (fits real root rows n es)
    where
      go : (b : Bool) → pick b (length (octets_of real root es)) 65536 ≤ 16384 → b ≡ true
      go true h = refl
      go false h = absurd (omega arith)

module _ (root rows n : ℕ) (es : List Item) (out : List ℕ) where
  pub writes-no : fits written_real root rows n es ≡ false → writes root rows n es out ≡ unchanged out
  unfolding writes
  writes-no e = rw e refl

  pub writes-yes : fits written_real root rows n es ≡ true → length (octets_of written_real root es) ≤ length out
      → writes root rows n es out
      ≡ outcome (Some (length (octets_of written_real root es))) (octets_of written_real root es ++ drop (length (octets_of written_real root es)) out)
  unfolding writes put
  writes-yes e h =
      let z : 0 + length (octets_of written_real root es) ≡ length (octets_of written_real root es) = omega arith in
      rw (e, z, le-leb _ _ h) refl

  pub writes_short : fits written_real root rows n es ≡ true → length out < length (octets_of written_real root es)
      → writes root rows n es out ≡ unchanged out
  unfolding writes put
  writes_short e h =
      let z : 0 + length (octets_of written_real root es) ≡ length (octets_of written_real root es) = omega arith in
      rw (e, z, lt-leb _ _ h) refl

  -- it depends on the rows by their entries alone
  pub writes-any : (rows' : ℕ) → n ≤ rows → n ≤ rows' → writes root rows n es out ≡ writes root rows' n es out
  unfolding writes fits
  writes-any rows' h k = rw (le-leb _ _ h, le-leb _ _ k) refl

-- ---- the test

pub record Accepting (root : ℕ) (es : List Item) : Type 0 where
  pub most : length es ≤ 256
  pub whole : is_whole root es ≡ true
  pub few : length (octets_of least_real root es) ≤ 16384

module _ (root : ℕ) (es : List Item) where
  pub accepting : accepted root es ≡ true → Accepting root es
  unfolding accepted
  accepting e0 =
      let e1 = both_right (leb (length es) 256) _ e0 in
      record {
        most = leb-true _ _ (both_left (leb (length es) 256) _ e0);
        whole = both_left (is_whole root es) _ e1;
        few = leb-true _ _ (both_right (is_whole root es) _ e1);
      }

  pub accepted-by : Accepting root es → accepted root es ≡ true
  unfolding accepted
  accepted-by a = both-make _ _ (le-leb _ _ a.most) (both-make _ _ a.whole (le-leb _ _ a.few))

  -- the least message of entries of octets is of octets
  pub least-octets : Accepting root es → Octets es → Below 256 (octets_of least_real root es)
  unfolding octets_of
  least-octets a o =
      let w = made root es a.whole in
      message-below least_real least-below root (trees_of root es).trees w.legals (subst Octets (sym w.entries) o) a.few
