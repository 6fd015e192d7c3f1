-- What the sheet writer answers.
use Rattle.std.specs.Prelude.{Option, Some, None}
use Prim.Native.Nat.{ℕ, ◌≤◌}
use mathlib.Core.Path.{◌≡◌, refl, sym, ap, ◌∙◌}
use mathlib.Core.List.{List}
use mathlib.Core.Bool.{true, false}
use native.Mathlib.Omega.{arith}
use lib.ListN.{length}
use Rattle.framing_packets.specs.Written.{outcome, into, in_packets}
use Rattle.framing_packets.proofs.Laws.{limited-fits}
use Rattle.desk_crosspoints.specs.Desk.{Desk, desk_legal}
use Rattle.sheet_rules.specs.Sheet.{sheet_message, sheet_of, breaks_into}
use Rattle.sheet_rules.proofs.Suited.{sheet-legal}
use Rattle.sheet_rules.proofs.Theorems.{bytes_of}
use Rattle.sheet_rules.proofs.Sizes.{sheet-octets, sheet-size}
use Rattle.sheet_rules.proofs.Reals.{sheet-below}
use Rattle.sheet_rules.proofs.Breaks.{message-break}
use Rattle.sheet_writer.specs.declared.Answer.{Answer}
use Rattle.sheet_writer.specs.declared.Answer.TheVariants.{Setup}
use Rattle.sheet_writer.specs.Calls.{outcome_of, writes_sheet}
use Rattle.sheet_writer.specs.Steps.{said}
use Rattle.sheet_writer.proofs.Packets.{frames-length, text-length}

said-told : (r : Option ℕ) (o : List ℕ) → outcome r o ≡ outcome_of (said r) o
said-told (Some n) o = refl
said-told None o = refl

module _ (d : Desk) (o : List ℕ) where
  pub sheet-setup : desk_legal d ≡ false → writes_sheet d o ≡ outcome_of Setup o
  unfolding writes_sheet
  sheet-setup e = rw e refl

  pub sheet-into : desk_legal d ≡ true → writes_sheet d o ≡ into (sheet_of d) o
  unfolding writes_sheet
  sheet-into e = rw e refl

  -- the sheet is the lines of its frames
  sheet-lines : desk_legal d ≡ true → breaks_into (in_packets (sheet_message d)) o ≡ into (sheet_of d) o
  unfolding sheet_of
  sheet-lines ok =
      let m = sheet_message d in
      let s = sheet-size d ok in
      let l = frames-length m (omega (arith, s)) in
      let b = bytes_of m (sheet-below d (sheet-legal d ok) (sheet-octets d ok) (omega (arith, s))) in
      limited-fits _ _ _ _ (omega (arith, l)) ∙ ap (λ (x : List ℕ). into x o) (message-break m b)

  -- as the code goes: the message, its frames, and what the lines' writer answers
  pub sheet-put : desk_legal d ≡ true → {m : List ℕ} → m ≡ sheet_message d → {frames : List ℕ} → frames ≡ in_packets m
      → (r : Option ℕ) (o' : List ℕ) → breaks_into frames o ≡ outcome r o' → {a : Answer} → said r ≡ a → writes_sheet d o ≡ outcome_of a o'
  sheet-put ok {m} p {frames} q r o' e {a} g =
      sheet-into ok
      ∙ sym (sheet-lines ok)
      ∙ ap (λ (x : List ℕ). breaks_into (in_packets x) o) (sym p)
      ∙ ap (λ (x : List ℕ). breaks_into x o) (sym q)
      ∙ e
      ∙ said-told r o'
      ∙ ap (λ (x : Answer). outcome_of x o') g

pub sheet-length : (d : Desk) → desk_legal d ≡ true → length (sheet_of d) ≤ 25000
unfolding sheet_of
sheet-length d ok = text-length (sheet_message d) (sheet-size d ok)
