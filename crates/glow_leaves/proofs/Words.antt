-- Laws of `word_of`: a value told by its first word is what `leaf_at` gives.
use Rattle.std.specs.Prelude.{Option, Some}
use Prim.Native.Nat.{ℕ, ◌+◌, ◌≤◌, ◌<◌}
use mathlib.Core.Path.{◌≡◌, sym, ap, subst, ◌∙◌}
use mathlib.Core.List.{List}
use mathlib.Core.Bool.{true}
use native.Mathlib.Omega.{arith}
use borrow.Author.Tests.{lt-ltb, le-ltb}
use lib.ListN.{length, take, drop}
use lib.Dec.{leb}
use lib.IntN.{ℤ}
use mir.Syntax.{w64}
use mir.Val.{SFits}
use Rattle.ber_integers.specs.Integer.{integer_at}
use Rattle.ber_values.specs.declared.Value.TheVariants.{Int}
use Rattle.ber_values.specs.Value.{is_listed, content_at, on_number}
use Rattle.ber_values.proofs.Laws.{content-int, content-text}
use Rattle.ber_identifiers.specs.declared.Oid.{Oid}
use Rattle.ber_identifiers.specs.declared.Oid.TheVariants.{Numbers}
use Rattle.ber_identifiers.specs.Identifier.{oid_at}
use Rattle.glow_rows.specs.declared.Cell.{Cell}
use Rattle.glow_rows.specs.Cell.{cell, cell_of}
use Rattle.glow_grammar.specs.declared.Leaf.TheVariants.{Kept}
use Rattle.glow_grammar.specs.Leaf.{expects, word_in, is_name, oid_leaf, judged, leaf_at, cell_by, Counted, NumberTold, ListTold, LeafTold}
use Rattle.glow_grammar.proofs.Tables.{expects-any, expects-text, expects-int, expects-numbers}
use Rattle.glow_leaves.proofs.Laws.{cell-range, number-any, number-kept, text-free, text-name, numbers-list, leaf-numbers, leaf-value}

pub counted-any : (what : ℕ) → what ≡ 4 → Counted what
unfolding is_listed
counted-any what e = (expects-any 2 what e, λ z. omega arith)

pub counted-from : (what : ℕ) → 8 ≤ what → Counted what
counted-from what h = (expects-int 2 what h, λ z. omega arith)

-- a number, by the cell that holds it
module _ (what : ℕ) (z : ℤ) {v : Cell} (e : v ≡ cell_of (Int z)) where
  same : cell 2 v.first 0 ≡ cell_of (Int z)
  same = ap (λ (x : Cell). cell 2 x.first 0) e

  pub word-any : what ≡ 4 → NumberTold what (Some z) v.first
  word-any h f s at above next = number-any at what above z h ∙ ap (λ (x : Cell). Kept x above) (sym same)

  pub word_kept : (what ≡ 4 → ⊥) → SFits w64 z → word_in what v.first ≡ true → NumberTold what (Some z) v.first
  word_kept h i w f s at above next = number-kept at what above z h (cell-range what i e w) f ∙ ap (λ (x : Cell). Kept x above) (sym same)

pub number-told : (what r : ℕ) {n m : Option ℤ} → n ≡ m → NumberTold what m r → NumberTold what n r
number-told what r e t = subst (λ n. NumberTold what n r) (sym e) t

pub list-told : (start : ℕ) {n r : ℕ} {o : Oid} → o ≡ Numbers n → r ≡ start → ListTold start o r
list-told start e q at len above = ap (oid_leaf at start len above) e ∙ ap (λ (x : ℕ). Kept (cell 13 x len) above) (sym q)

module _ (s : List ℕ) (number start len what : ℕ) (h : leb (start + len) (length s) ≡ true) where
  pub told-number : {r : ℕ} {n : Option ℤ} → number ≡ 2 → Counted what → n ≡ integer_at s start len → NumberTold what n r
      → LeafTold s number start len what r
  unfolding cell_by
  told-number {r} e k i t at above =
      leaf-value s at start len what above number (rw e k.0) (λ z. omega arith)
      ∙ ap (judged s at what above) (sym (content-int s at number start len e h))
      ∙ ap (λ x. judged s at what above (on_number at (start + len) x)) (sym i)
      ∙ t k.1 s at above (start + len)
      ∙ rw e

  text : (at above : ℕ) → number ≡ 12 → expects what 12 ≡ true
      → leaf_at s at number start len what above ≡ judged s at what above (content_at s at number start len)
  text at above e x = leaf-value s at start len what above number (rw e x) (λ z. omega arith)

  pub told-name : {r : ℕ} → number ≡ 12 → what ≡ 1 → is_name (take len (drop start s)) ≡ true → r ≡ start → LeafTold s number start len what r
  unfolding cell_by
  told-name e w n q at above =
      text at above e (expects-text 12 what (omega arith)) ∙ ap (judged s at what above) (sym (content-text s at number start len e h))
      ∙ text-name s at what above start len w n ∙ rw (e, q)

  pub told_text : {r : ℕ} → number ≡ 12 → what ≡ 2 → r ≡ start → LeafTold s number start len what r
  unfolding cell_by
  told_text e w q at above =
      text at above e (expects-text 12 what (omega arith))
      ∙ ap (judged s at what above) (sym (content-text s at number start len e h))
      ∙ text-free s at what above start len (λ z. omega arith)
      ∙ rw (e, q)

  pub told-list : {r : ℕ} {o : Oid} → number ≡ 13 → what ≡ 7 → o ≡ oid_at s start len → ListTold start o r → LeafTold s number start len what r
  unfolding cell_by
  told-list e w i t at above =
      leaf-numbers s at start len what above number (rw e (expects-numbers 13 what (omega arith) (omega arith))) e
      ∙ numbers-list s at start len what above h (λ z. omega arith)
      ∙ ap (oid_leaf at start len above) (sym i)
      ∙ t at len above
      ∙ rw e

-- the cell as the code puts it together
module _ (number first len : ℕ) where
  pub cell-short : number < 12 → cell_by number first len ≡ cell number first 0
  unfolding cell_by
  cell-short h = rw (lt-ltb _ _ h)

  pub cell-long : 12 ≤ number → {second : ℕ} → second ≡ len → cell_by number first len ≡ cell number first second
  unfolding cell_by
  cell-long h e = rw (le-ltb _ _ h, e)
