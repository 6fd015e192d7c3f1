-- Laws for the functions: what each way out gives.
use Prim.Native.Nat.{ℕ, ◌≤◌}
use mathlib.Core.Bool.{Bool, true, false}
use mathlib.Core.List.{List, [], ◌∷◌}
use mathlib.Core.Logic.{⊎_elim}
use mathlib.Core.Path.{◌≡◌, refl, sym, ap, ◌∙◌}
use native.Mathlib.Omega.{arith}
use types.Run.{OneOf}
use denote.Enum.Declared.{tag_of}
use lib.ListN.{length, take}
use lib.Seq.{take_all, take-length}
use Rattle.framing_session.specs.contracts.Event as event
use Rattle.framing_session.specs.declared.Event.{Event}
use Rattle.framing_session.specs.declared.Event.TheVariants as ev
use Rattle.glow_rows.specs.Entry.{Rows}
use Rattle.glow_reader.specs.contracts.Answer as answer
use Rattle.glow_reader.specs.declared.Answer.{Answer}
use Rattle.glow_reader.specs.declared.Answer.TheVariants.{Setup, Refused, Room, Read}
use Rattle.glow_reader.specs.Message.{Result, read_result, read_at}
use Rattle.desk_crosspoints.specs.Crosspoints.{Cells}
use Rattle.desk_crosspoints.specs.Desk.{Desk}
use Rattle.desk_calls.specs.declared.Called.{Called}
use Rattle.desk_calls.specs.Calls.{Outcome, uncalled, called_after, outcome_of as answered}
use Rattle.turn_rules.specs.Turns.{none, read, desk, is_message, is_read}
use Rattle.turns.specs.Whole.{Left, left, unasked, desk_to, answer_to, read_to, later_at}

-- a message that is no shorter than the store is all of it
pub front-all : (t : List ℕ) (n : ℕ) → length t ≤ n → take (length t) t ≡ take n t
front-all t n h = take-length t ∙ sym (take_all n t h)

-- the `else` of each `let .. else`
pub other-event : (e : Event) → OneOf (0 ∷ 1 ∷ 2 ∷ 4 ∷ 5 ∷ 6 ∷ []) (tag_of event.the_type e) → is_message e ≡ false
other-event ev.More k = refl
other-event ev.Setup k = refl
other-event (ev.Piece d) k = refl
other-event (ev.Message n d) k =
    absurd (⊎_elim (λ (q : 3 ≡ 0). omega arith) (⊎_elim (λ (q : 3 ≡ 1). omega arith) (⊎_elim (λ (q : 3 ≡ 2). omega arith)
    (⊎_elim (λ (q : 3 ≡ 4). omega arith) (⊎_elim (λ (q : 3 ≡ 5). omega arith) (λ (q : 3 ≡ 6). omega arith))))) k)
other-event ev.Request k = refl
other-event ev.Response k = refl
other-event (ev.Refused f d) k = refl

pub other-answer : (a : Answer) → OneOf (0 ∷ 1 ∷ 2 ∷ []) (tag_of answer.the_type a) → is_read a ≡ false
other-answer Setup k = refl
other-answer (Refused number place) k = refl
other-answer (Room count) k = refl
other-answer (Read root count) k =
    absurd (⊎_elim (λ (q : 3 ≡ 0). omega arith) (⊎_elim (λ (q : 3 ≡ 1). omega arith) (λ (q : 3 ≡ 2). omega arith)) k)

never : {P : Type 0} → true ≡ false → P
never e = let z : ◌≡◌ {A = ℕ} 0 1 = cc in absurd (omega arith)

-- nothing comes after another event than 3
pub later-none : (d : Desk) (e : Event) (t : List ℕ) (table : Rows) → is_message e ≡ false → later_at d e t table ≡ unasked none table d.crosspoints
later-none d ev.More t table h = refl
later-none d ev.Setup t table h = refl
later-none d (ev.Piece b) t table h = refl
later-none d (ev.Message n b) t table h = never h
later-none d ev.Request t table h = refl
later-none d ev.Response t table h = refl
later-none d (ev.Refused f b) t table h = refl

pub later-message : (d : Desk) (e : Event) (t : List ℕ) (table : Rows) (n n' : ℕ) {b : Bool} {x : Left} → e ≡ ev.Message n b
    → take n' t ≡ take n t → read_to d (take n' t) table ≡ x → later_at d e t table ≡ x
later-message d e t table n n' q k h =
    ap (λ (i : Event). later_at d i t table) q ∙ ap (λ (m : List ℕ). read_to d m table) (sym k) ∙ h

-- the tree reader's answer
to-answer : (d : Desk) (m : List ℕ) (table : Rows) (a : Answer) (table' : Rows) → read_at m table ≡ read_result a table'
    → read_to d m table ≡ answer_to d m a table'
unfolding read_to
to-answer d m table a table' q = ap (λ (x : Result). answer_to d m x.answer x.rows) q

refused-to : (d : Desk) (m : List ℕ) (a : Answer) (table : Rows) → is_read a ≡ false
    → answer_to d m a table ≡ unasked (read a table) table d.crosspoints
refused-to d m Setup table h = refl
refused-to d m (Refused number place) table h = refl
refused-to d m (Room count) table h = refl
refused-to d m (Read root count) table h = never h

-- after another answer than 0 the desk was not called
not-called : (d : Desk) (m : List ℕ) (a : Answer) (table : Rows) → is_read a ≡ false → called_after d m a table ≡ uncalled d.crosspoints
not-called d m Setup table h = refl
not-called d m (Refused number place) table h = refl
not-called d m (Room count) table h = refl
not-called d m (Read root count) table h = never h

module _ (d : Desk) (m : List ℕ) (table : Rows) (a : Answer) (table' : Rows) (q : read_at m table ≡ read_result a table') (r : Called) (cells' : Cells)
    (k : called_after d m a table' ≡ answered r cells') where
  pub to-refused : is_read a ≡ false → read_to d m table ≡ left (read a table') r.answers table' cells'
  to-refused h =
      to-answer d m table a table' q ∙ refused-to d m a table' h
      ∙ ap (λ (o : Outcome). left (read a table') o.answers table' o.cells) (sym (not-called d m a table' h) ∙ k)

  pub to-served : (root count : ℕ) → a ≡ Read root count
      → read_to d m table ≡ left (desk root count table' (answered r cells')) r.answers table' cells'
  to-served root count h =
      to-answer d m table a table' q ∙ ap (λ (x : Answer). answer_to d m x table') h
      ∙ ap (desk_to root count table') (ap (λ (x : Answer). called_after d m x table') (sym h) ∙ k)
