-- Entries as the tree reader left them: they make a tree that it accepts, so the desk's call on them never gives 1 on a legal desk.
use Prim.Native.Nat.{ℕ, suc, ◌≤◌, ◌<◌}
use mathlib.Core.Path.{◌≡◌, refl, sym, ap, subst, ◌∙◌}
use mathlib.Core.List.{List, [], ◌∷◌}
use mathlib.Core.Bool.{true, false}
use mathlib.Core.Logic.{⊎_elim}
use native.Mathlib.Omega.{arith}
use types.Run.{OneOf}
use denote.Enum.Declared.{tag_of}
use lib.ListN.{length, get_or}
use Rattle.ber_integers.proofs.Radix.{Below}
use Rattle.glow_rows.specs.Entry.{Rows}
use Rattle.glow_reader.specs.contracts.Answer as answer
use Rattle.glow_reader.specs.declared.Answer.{Answer}
use Rattle.glow_reader.specs.declared.Answer.TheVariants.{Setup, Refused, Room, Read}
use Rattle.glow_reader.specs.Message.{Result, read_result, read_at}
use Rattle.glow_reader.proofs.Answers.{rows-kept}
use Rattle.trees_round_trip.proofs.Theorems.{read-accepted}
use Rattle.trees_round_trip.proofs.Reading.{read_walk}
use Rattle.trees_round_trip.proofs.Rewriting.{in_rows}
use Rattle.desk_crosspoints.specs.Crosspoints.{clear}
use Rattle.desk_crosspoints.specs.Desk.{Desk, desk_legal}
use Rattle.desk_setup.specs.Ready.{is_ready}
use Rattle.desk_setup.proofs.Laws.{ready-from, setup-desk}
use Rattle.desk_calls.specs.declared.Called.{Called}
use Rattle.desk_calls.specs.Calls.{Outcome, called, outcome_of, uncalled, called_after}
use Rattle.desk_calls.specs.Steps.{served_in}
use Rattle.desk_calls.proofs.Setup.{called-not, called-ready, unready-told, laid-zeros}

-- bytes are octets
pub octets-all : (s : List ℕ) → ((i : ℕ) → get_or s i 0 < 256) → Below 256 s
octets-all [] h = tt
octets-all (x ∷ xs) h = (h 0, octets-all xs (λ i. h (suc i)))

-- after another answer than 0 the desk is not called
pub after-other : (d : Desk) (s : List ℕ) (a : Answer) (table : Rows) → OneOf (0 ∷ 1 ∷ 2 ∷ []) (tag_of answer.the_type a)
    → (r : Called) → r ≡ record { number = 0; count = 0; answers = clear 256 } → called_after d s a table ≡ outcome_of r d.crosspoints
after-other d s a table k r e = go a k ∙ ap (λ (x : Called). outcome_of x d.crosspoints) (sym e)
  where
    go : (a : Answer) → OneOf (0 ∷ 1 ∷ 2 ∷ []) (tag_of answer.the_type a) → called_after d s a table ≡ uncalled d.crosspoints
    go Setup k = refl
    go (Refused number place) k = refl
    go (Room count) k = refl
    go (Read root count) k =
        absurd (⊎_elim (λ (q : 3 ≡ 0). omega arith) (⊎_elim (λ (q : 3 ≡ 1). omega arith) (λ (q : 3 ≡ 2). omega arith)) k)

-- "1 SETUP" is not for a legal desk and entries as read: the reader takes no longer table and no longer message
pub ready : (s : List ℕ) → Below 256 s → (table : Rows) (root count : ℕ) → (read_at s table).answer ≡ Read root count → (d : Desk) → desk_legal d ≡ true
    → is_ready d root (read_at s table).rows count s ≡ true
ready s octets table root count h d g =
    let w = read_walk s table root count h in
    let k = rows-kept s table in
    let l = w.most in
    ready-from d root (read_at s table).rows count s (omega arith) w.few g (in_rows s table h).0
    (read-accepted s octets table root count h)

module _ (s : List ℕ) (table : Rows) (a : Answer) (rows : Rows) (q : read_at s table ≡ read_result a rows) (root count : ℕ) (h : a ≡ Read root count) where
  gave : (read_at s table).answer ≡ Read root count
  gave = ap (λ (x : Result). x.answer) q ∙ h

  rows_are : (read_at s table).rows ≡ rows
  rows_are = ap (λ (x : Result). x.rows) q

  message-few : length s ≤ 16384
  message-few = (read_walk s table root count gave).few

  rows_few : length rows ≤ 256
  rows_few =
      let w = read_walk s table root count gave in
      let l = w.most in
      let k : length rows ≡ length table = ap length (sym rows_are) ∙ rows-kept s table in
      omega arith

  -- the entries stand in the rows
  pub count-rows : count ≤ length rows
  count-rows = subst (λ (x : Rows). count ≤ length x) rows_are (in_rows s table gave).0

  pub count-few : count ≤ 256
  count-few = let l = rows_few in let k = count-rows in omega arith

  -- .. and what the two calls give
  module _ (d : Desk) where
    abbrev Gives : Outcome → Type 0
    Gives x = (read_at s table ≡ read_result (Read root count) rows) × (called d root rows count s ≡ x)

    read_is : read_at s table ≡ read_result (Read root count) rows
    read_is = q ∙ ap (λ (x : Answer). read_result x rows) h

    pub after-unready : desk_legal d ≡ false → (r : Called) → r ≡ record { number = 1; count = 0; answers = clear 256 }
        → Gives (outcome_of r d.crosspoints)
    after-unready g r e = (read_is, called-not d root rows count s (setup-desk d root rows count s rows_few message-few g) ∙ unready-told r d.crosspoints e)

    pub after-served : Below 256 s → desk_legal d ≡ true → (lent : List ℕ) (x : Outcome) → lent ≡ clear 256 → served_in d rows count s lent ≡ x → Gives x
    after-served octets g lent x e k =
        let y : is_ready d root rows count s ≡ true =
        subst (λ (z : Rows). is_ready d root z count s ≡ true) rows_are (ready s octets table root count gave d g) in
        (read_is, called-ready d root rows count s y ∙ laid-zeros _ lent x e k)
