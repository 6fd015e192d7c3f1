-- The theorems of the route sheet writer, over what the code is proved to answer (`writes_sheet`, specs/Calls.antt): for all desks and outputs.
use Prim.Native.Nat.{ℕ, ◌≤◌}
use mathlib.Core.Path.{◌≡◌, refl, sym, ap, ◌∙◌}
use mathlib.Core.List.{List, ◌++◌}
use mathlib.Core.Bool.{Bool, true, false}
use native.Mathlib.Omega.{arith}
use borrow.Author.Tests.{le-leb}
use lib.ListN.{length, take, drop}
use Rattle.base_choices.specs.Choices.{pick}
use Rattle.framing_packets.specs.Written.{Outcome, into}
use Rattle.framing_packets.proofs.Laws.{into_back}
use Rattle.desk_crosspoints.specs.Desk.{Desk, desk_legal}
use Rattle.sheet_rules.specs.Sheet.{sheet_of}
use Rattle.sheet_rules.specs.Reading.{read, read_sheet}
use Rattle.sheet_rules.proofs.Theorems.{sheet-read}
use Rattle.sheet_writer.specs.declared.Answer.TheVariants.{Setup, Done}
use Rattle.sheet_writer.specs.Calls.{outcome_of, writes_sheet}
use Rattle.sheet_writer.proofs.Answers.{sheet-into, sheet-length}

module _ (d : Desk) (out : List ℕ) where
  done-legal : (u : Bool) (n : ℕ) (out' : List ℕ) → pick u (into (sheet_of d) out) (outcome_of Setup out) ≡ outcome_of (Done n) out' → u ≡ true
  done-legal true n out' e = refl
  done-legal false n out' e = let z : ◌≡◌ {A = ℕ} 1 0 = ap (λ (x : Outcome). x.number) e in absurd (omega arith)

  -- 1. What was written is read as the same desk: figures, limits as given, path and crosspoints.
  pub written_read : (n : ℕ) (out' : List ℕ) → writes_sheet d out ≡ outcome_of (Done n) out' → read_sheet (take n out') ≡ read d
  unfolding writes_sheet
  written_read n out' e =
      let ok = done-legal (desk_legal d) n out' e in
      let b : take n out' ≡ sheet_of d = into_back (sheet_of d) out out' n (sym (sheet-into d out ok) ∙ e) in
      ap read_sheet b ∙ sheet-read d ok

  -- 2. Every legal desk is written, where the output is as long as its sheet, and the bytes past it stay;
  pub legal-written : desk_legal d ≡ true → length (sheet_of d) ≤ length out
      → writes_sheet d out ≡ outcome_of (Done (length (sheet_of d))) (sheet_of d ++ drop (length (sheet_of d)) out)
  unfolding into
  legal-written ok h = sheet-into d out ok ∙ simp (le-leb _ _ h)

  -- 25,000 bytes are always enough.
  pub always-enough : desk_legal d ≡ true → length (sheet_of d) ≤ 25000
  always-enough ok = sheet-length d ok
