-- What a cell holds where its member's rule lets it stand (`suits`, crates/glow_trees/specs/Legal.antt): a member of a struct, in range of its type.
use Rattle.std.specs.Prelude.{Option, Some, None}
use Prim.Native.Nat.{ℕ, zero, suc, ◌+◌, ◌≤◌, ◌<◌}
use mathlib.Core.Path.{◌≡◌, refl, sym, ap, subst, ◌∙◌}
use mathlib.Core.List.{List}
use mathlib.Core.Bool.{Bool, true, false, not}
use mathlib.Core.Logic.{⊎_elim}
use native.Mathlib.Omega.{arith}
use borrow.Author.Tests.{ltb-true, ltb-false, leb-true, eqb-true}
use lib.ListN.{length}
use lib.Dec.{T, leb, ltb, eqb}
use lib.IntN.{ℤ}
use lib.Ieee as Ieee
use lib.Ieee.{binary64}
use lib.Ieee.Bits.{of_bits-fits, to_bits-of_bits, nan_bits_is}
use Rattle.ber_integers.proofs.Radix.{lt-or-le}
use Rattle.ber_values.specs.declared.Value.{Value}
use Rattle.ber_values.specs.declared.Value.TheVariants.{Absent, Int, Real, Text, Bool as Truth, Octets}
use Rattle.ber_values.specs.Value.{is_listed}
use Rattle.base_choices.proofs.Laws.{pick-by, both_left, both_right}
use Rattle.glow_rows.specs.declared.Cell.{Cell}
use Rattle.glow_rows.specs.Cell.{cell, absent, word_of, bit_of, cell_of}
use Rattle.glow_grammar.specs.Leaf.{expects}
use Rattle.glow_trees.specs.Content.{Content, is_part, is_word, content_of}
use Rattle.glow_trees.specs.Legal.{suits, present, word_suits, is_real}
use Rattle.trees_read_back.proofs.Bools.{never, unless, word-kinds, part-kinds}
use Rattle.glow_entries.specs.declared.Part.{Part}
use Rattle.glow_entries.specs.Member.{part}
use Rattle.glow_entries.specs.Held.{HeldInt, HeldNumber, HeldParent, HeldValue, Present}
use Rattle.glow_rows.specs.Cell.{int_of}
use Rattle.glow_entries.specs.Member.{number_cell, flag_cell, part_cell, parent_word}
use Rattle.entries_from_rows.specs.Told.{number_kept, flag_kept, text_kept, list_kept, parent_kept}

-- ---- the three forms of a cell that suits a rule

pub data Shape (what : ℕ) (v : Cell) : Type 0 where
  gone : v ≡ absent → Shape what v
  worded : (kind w : ℕ) → v ≡ cell kind w 0 → is_word kind ≡ true → w < 18446744073709551616 → eqb what 0 ≡ false → expects what kind ≡ true
      → word_suits what kind w ≡ true → Shape what v
  parted : (kind start len : ℕ) → v ≡ cell kind start len → is_part kind ≡ true → eqb what 0 ≡ false → expects what kind ≡ true → Shape what v

module _ (s : List ℕ) (what : ℕ) (v : Cell) where
  abbrev Forms : Content → Type 0
  Forms x = suits what x ≡ true → Shape what v

  pub shape : suits what (content_of s v) ≡ true → Shape what v
  unfolding content_of suits
  shape =
      pick-by Forms (is_part v.kind)
      (λ e.
      pick-by Forms (leb (v.first + v.second) (length s))
      (λ f q.
      let u = unless (eqb what 0) _ q in
      parted v.kind v.first v.second refl e u.0 (both_left (expects what v.kind) _ (both_right (is_part v.kind) _ u.1)))
      (λ f q. never q))
      (λ e.
      pick-by Forms (is_word v.kind)
      (λ f.
      pick-by Forms (eqb v.second 0)
      (λ g.
      pick-by Forms (ltb v.first 18446744073709551616)
      (λ h q.
      let u = unless (eqb what 0) _ q in
      let a = both_right (is_word v.kind) _ u.1 in
      let b = both_right (ltb v.first 18446744073709551616) _ a in
      worded v.kind v.first (ap (cell v.kind v.first) (eqb-true v.second 0 g)) f (ltb-true v.first 18446744073709551616 h) u.0
      (both_left (expects what v.kind) _ b) (both_right (expects what v.kind) _ b))
      (λ h q. never q))
      (λ g q. never q))
      (λ f.
      pick-by Forms (eqb v.kind 0)
      (λ g.
      pick-by Forms (eqb v.first 0)
      (λ h.
      pick-by Forms (eqb v.second 0)
      (λ i q. gone (none v.kind v.first v.second (eqb-true _ _ g) (eqb-true _ _ h) (eqb-true _ _ i)))
      (λ i q. never q))
      (λ h q. never q))
      (λ g q. never q)))
    where
      none : (k a b : ℕ) → k ≡ 0 → a ≡ 0 → b ≡ 0 → cell k a b ≡ absent
      none k a b e f g = rw (e, f, g) refl

  -- a member that is required is there
  pub there : present (content_of s v) ≡ true → v ≡ absent → ⊥
  unfolding content_of
  there p e = never (ap (λ (u : Cell). present (content_of s u)) (sym e) ∙ p)

-- ---- what each form is as a member

int_word : (w : ℕ) → w < 18446744073709551616 → (word_of (int_of w) ≡ w) × HeldInt (int_of w)
unfolding int_of
int_word w l =
    pick-by (λ (z : ℤ). (word_of z ≡ w) × HeldInt z) (ltb w 0x8000000000000000)
    (λ e. (refl, ltb-true w 0x8000000000000000 e))
    (λ e. let h = ltb-false w 0x8000000000000000 e in (omega arith, omega arith))

-- a number
pub record NumberIn (v : Cell) : Type 0 where
  pub member : Option ℤ
  pub cells : v ≡ number_cell member
  pub kept : number_kept member ≡ v
  pub held : HeldNumber member

pub record IntIn (v : Cell) : Type 0 where
  pub member : ℤ
  pub cells : v ≡ cell 2 (word_of member) 0
  pub held : HeldInt member

int-in : (v : Cell) (w : ℕ) → v ≡ cell 2 w 0 → w < 18446744073709551616 → IntIn v
int-in v w e l =
    let r = int_word w l in
    record { member = int_of w; cells = e ∙ ap (λ (i : ℕ). cell 2 i 0) (sym r.0); held = r.1 }

pub number_in : (what : ℕ) (v : Cell) → ((k : ℕ) → expects what k ≡ eqb k 2) → Shape what v → NumberIn v
number_in what v x (gone e) = record { member = None; cells = e; kept = sym e; held = tt }
number_in what v x (worded kind w e i l n g u) =
    let k : kind ≡ 2 = eqb-true kind 2 (sym (x kind) ∙ g) in
    let z = int-in v w (e ∙ ap (λ (j : ℕ). cell j w 0) k) l in
    record { member = Some z.member; cells = z.cells; kept = sym z.cells; held = z.held }
number_in what v x (parted kind start len e i n g) =
    let k : kind ≡ 2 = eqb-true kind 2 (sym (x kind) ∙ g) in never (ap is_part (sym k) ∙ i)

pub some_number : {v : Cell} → NumberIn v → (v ≡ absent → ⊥) → IntIn v
some_number {v = v} r n = go r.member r.cells r.held
  where
    go : (m : Option ℤ) → v ≡ number_cell m → HeldNumber m → IntIn v
    go None e h = absurd (n e)
    go (Some z) e h = record { member = z; cells = e; held = h }

-- a flag
pub record FlagIn (v : Cell) : Type 0 where
  pub member : Option Bool
  pub cells : v ≡ flag_cell member
  pub kept : flag_kept member ≡ v

bit_in : (w : ℕ) → w ≤ 1 → (b : Bool) × (bit_of b ≡ w)
bit_in w l = ⊎_elim (λ (h : w < 1). (false, omega arith)) (λ (h : 1 ≤ w). (true, omega arith)) (lt-or-le w 1)

pub flag-in : (what : ℕ) (v : Cell) → ((k : ℕ) → expects what k ≡ eqb k 1) → Shape what v → FlagIn v
unfolding word_suits
flag-in what v x (gone e) = record { member = None; cells = e; kept = sym e }
flag-in what v x (worded kind w e i l n g u) =
    let k : kind ≡ 1 = eqb-true kind 1 (sym (x kind) ∙ g) in
    let b = bit_in w (leb-true w 1 (ap (λ (j : ℕ). word_suits what j w) (sym k) ∙ u)) in
    let c : v ≡ cell 1 (bit_of b.0) 0 = e ∙ ap (λ (j : ℕ). cell j w 0) k ∙ ap (λ (j : ℕ). cell 1 j 0) (sym b.1) in
    record { member = Some b.0; cells = c; kept = sym c }
flag-in what v x (parted kind start len e i n g) =
    let k : kind ≡ 1 = eqb-true kind 1 (sym (x kind) ∙ g) in never (ap is_part (sym k) ∙ i)

-- a text (12), a path or sources (13)
pub record PartIn (tag : ℕ) (v : Cell) : Type 0 where
  pub member : Option Part
  pub cells : v ≡ part_cell tag member

pub part_in : (tag what : ℕ) (v : Cell) → is_word tag ≡ false → ((k : ℕ) → expects what k ≡ eqb k tag) → Shape what v → PartIn tag v
part_in tag what v t x (gone e) = record { member = None; cells = e }
part_in tag what v t x (worded kind w e i l n g u) =
    let k : kind ≡ tag = eqb-true kind tag (sym (x kind) ∙ g) in never (sym t ∙ ap is_word (sym k) ∙ i)
part_in tag what v t x (parted kind start len e i n g) =
    let k : kind ≡ tag = eqb-true kind tag (sym (x kind) ∙ g) in
    record { member = part start len; cells = e ∙ ap (λ (j : ℕ). cell j start len) k }

pub text-kept : (m : Option Part) {v : Cell} → v ≡ part_cell 12 m → text_kept m ≡ v
text-kept None e = sym e
text-kept (Some p) e = sym e

pub list-kept : (m : Option Part) {v : Cell} → v ≡ part_cell 13 m → list_kept m ≡ v
list-kept None e = sym e
list-kept (Some p) e = sym e

pub record PathIn (v : Cell) : Type 0 where
  pub start : ℕ
  pub len : ℕ
  pub cells : v ≡ cell 13 start len

pub some-path : {v : Cell} → PartIn 13 v → (v ≡ absent → ⊥) → PathIn v
some-path {v = v} r n = go r.member r.cells
  where
    go : (m : Option Part) → v ≡ part_cell 13 m → PathIn v
    go None e = absurd (n e)
    go (Some p) e = record { start = p.start; len = p.len; cells = e }

-- no member
pub nothing-in : (v : Cell) → Shape 0 v → v ≡ absent
nothing-in v (gone e) = e
nothing-in v (worded kind w e i l n g u) = never (sym n)
nothing-in v (parted kind start len e i n g) = never (sym n)

-- a value of any kind; a real is a number
pub record ValueIn (v : Cell) : Type 0 where
  pub member : Value
  pub cells : v ≡ cell_of member
  pub held : HeldValue member

real-in : (v : Cell) (w : ℕ) → v ≡ cell 9 w 0 → w < 18446744073709551616 → is_real w ≡ true → ValueIn v
unfolding is_real
real-in v w e l r =
    let n : Ieee.nan_bits binary64 w ≡ false = (unless (Ieee.nan_bits binary64 w) _ r).0 in
    let m : Ieee.is_nan (Ieee.of_bits binary64 w) ≡ false = sym (nan_bits_is binary64 w) ∙ n in
    let h : T (not (Ieee.is_nan (Ieee.of_bits binary64 w))) = subst (λ (b : Bool). T (not b)) (sym m) tt in
    record {
      member = Real (Ieee.of_bits binary64 w);
      cells = e ∙ real-cell w (Ieee.of_bits binary64 w) m (to_bits-of_bits binary64 w l h);
      held = (of_bits-fits binary64 w, h);
    }
  where
    real-cell : (w : ℕ) (x : Ieee.Float) → Ieee.is_nan x ≡ false → Ieee.to_bits binary64 x ≡ w → cell 9 w 0 ≡ cell_of (Real x)
    real-cell w x m t = rw (m, t) refl

pub value_in : (v : Cell) → Shape 4 v → ValueIn v
unfolding word_suits expects is_listed
value_in v (gone e) = record { member = Absent; cells = e; held = tt }
value_in v (worded kind w e i l n g u) =
    ⊎_elim
    (λ (k : kind ≡ 1).
    let b = bit_in w (leb-true w 1 (ap (λ (j : ℕ). word_suits 4 j w) (sym k) ∙ u)) in
    record {
      member = Truth b.0;
      cells = e ∙ ap (λ (j : ℕ). cell j w 0) k ∙ ap (λ (j : ℕ). cell 1 j 0) (sym b.1);
      held = tt;
    })
    (⊎_elim
    (λ (k : kind ≡ 2).
    let z = int-in v w (e ∙ ap (λ (j : ℕ). cell j w 0) k) l in
    record { member = Int z.member; cells = z.cells; held = z.held })
    (λ (k : kind ≡ 9). real-in v w (e ∙ ap (λ (j : ℕ). cell j w 0) k) l (ap (λ (j : ℕ). word_suits 4 j w) (sym k) ∙ u)))
    (word-kinds kind i)
value_in v (parted kind start len e i n g) =
    ⊎_elim (λ (k : kind ≡ 4). record { member = Octets start len; cells = e ∙ ap (λ (j : ℕ). cell j start len) k; held = tt })
    (⊎_elim (λ (k : kind ≡ 12). record { member = Text start len; cells = e ∙ ap (λ (j : ℕ). cell j start len) k; held = tt })
    (λ (k : kind ≡ 13). never (ap (expects 4) (sym k) ∙ g)))
    (part-kinds kind i)

pub some-value : {v : Cell} (m : Value) → v ≡ cell_of m → (v ≡ absent → ⊥) → Present m
some-value Absent e n = absurd (n e)
some-value (Int z) e n = tt
some-value (Real x) e n = tt
some-value (Text start len) e n = tt
some-value (Truth b) e n = tt
some-value (Octets start len) e n = tt

-- the parent's place
pub record ParentIn (p : ℕ) : Type 0 where
  pub member : Option ℕ
  pub words : p ≡ parent_word member
  pub kept : parent_kept member ≡ p
  pub held : HeldParent member

pub parent_in : (p : ℕ) → p ≤ 256 → ParentIn p
parent_in zero h = record { member = None; words = refl; kept = refl; held = tt }
parent_in (suc i) h = record { member = Some i; words = omega arith; kept = omega arith; held = omega arith }
