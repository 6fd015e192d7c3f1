-- What comes after the session's call in a turn is what the rules have follow its event.
use Prim.Native.Nat.{ℕ, ◌-◌}
use mathlib.Core.Bool.{Bool, true, false}
use mathlib.Core.List.{List}
use mathlib.Core.Path.{◌≡◌, refl, sym, ap, subst, ◌∙◌}
use native.Mathlib.Omega.{arith}
use lib.Dec.{eqb}
use lib.ListN.{length, take}
use lib.Seq.{take_at}
use Rattle.ber_integers.proofs.Radix.{Below}
use Rattle.framing_session.specs.declared.Event.{Event}
use Rattle.framing_session.specs.declared.Event.TheVariants as ev
use Rattle.framing_session.specs.Rules as framing
use Rattle.framing_session.specs.Session.{said_by}
use Rattle.framing_session.proofs.Laws.{number-apart}
use Rattle.glow_rows.specs.Entry.{Rows}
use Rattle.glow_reader.specs.declared.Answer.{Answer}
use Rattle.glow_reader.specs.declared.Answer.TheVariants.{Read}
use Rattle.glow_reader.specs.Message.{Result, read_result, read_at, reply_by as tree_said}
use Rattle.glow_trees.specs.Content.{Item}
use Rattle.glow_trees.specs.Rows.{items_in}
use Rattle.desk_crosspoints.specs.Crosspoints.{Cells, clear}
use Rattle.desk_crosspoints.specs.Desk.{Desk, with_cells, desk_legal}
use Rattle.desk_calls.specs.Calls.{Served, handled, Outcome, filled, laid, called, outcome_of as answered}
use Rattle.desk_calls.proofs.Setup.{called-ready}
use Rattle.desk_calls.proofs.AsRead.{ready}
use Rattle.desk_calls.proofs.Claims.{called-legal}
use Rattle.turn_rules.specs.Rules.{refusal, tree_of, Then, nothing, served, follow, asked, follows}
use Rattle.turn_rules.specs.Turns.{Later, read, desk, is_message, is_read, Comes, ends, reads, serves, then_of}
use Rattle.turn_rules.proofs.Trees.{tree-refused, tree-read}

-- only event 3 is a message
other : (e : Event) (t : List ℕ) → is_message e ≡ false → eqb (said_by e t).number 3 ≡ false
other ev.More t h = refl
other ev.Setup t h = refl
other (ev.Piece d) t h = refl
other (ev.Message n d) t h = let z : ◌≡◌ {A = ℕ} 0 1 = cc in absurd (omega arith)
other ev.Request t h = refl
other ev.Response t h = refl
other (ev.Refused f d) t h = number-apart f (omega arith)

nothing-follows : (rows : ℕ) (d : Desk) (e : framing.Said) → eqb e.number 3 ≡ false → follows rows d e ≡ follow nothing d
unfolding follows
nothing-follows rows d e h = rw h refl

-- what a call that answers z tells
pub laid-tells : (z : Served) → take (laid z).count (laid z).answers ≡ z.answers
unfolding laid filled
laid-tells z = take_at z.answers (clear (256 - length z.answers)) (length z.answers) refl

laid-is : (z : Served) → ((laid z).number ≡ 0) × ((laid z).cells ≡ z.cells)
unfolding laid
laid-is z = (refl, refl)

-- as the rules: what is told, and the desk
pub record Agrees (rows : ℕ) (d : Desk) (e : framing.Said) (x : Then) (d' : Desk) : Type 0 where
  pub same : follow x d' ≡ follows rows d e
  pub legal : desk_legal d' ≡ true

module _ (rows : ℕ) (d : Desk) (g : desk_legal d ≡ true) (n : ℕ) (b : Bool) (t : List ℕ) (octets : Below 256 (take n t)) where
  abbrev m : List ℕ
  m = take n t

  abbrev e : framing.Said
  e = said_by (ev.Message n b) t

  on-message : follows rows d e ≡ asked d (tree_of m rows)
  unfolding follows
  on-message = refl

  module _ (table : Rows) (k : length table ≡ rows) where
    not-read : (a : Answer) (table' : Rows) → read_at m table ≡ read_result a table' → is_read a ≡ false → Agrees rows d e (then_of (read a table') m) d
    not-read a table' q h =
        let x : tree_of m rows ≡ refusal (tree_said a) =
        ap (tree_of m) (sym k) ∙ tree-refused m table a (ap (λ (z : Result). z.answer) q) h in
        record { same = sym (on-message ∙ ap (asked d) x); legal = g }

    module _ (root count : ℕ) (h : (read_at m table).answer ≡ Read root count) where
      abbrev table' : Rows
      table' = (read_at m table).rows

      abbrev es : List Item
      es = items_in m table' count

      abbrev z : Served
      z = handled d es

      read-follows : follows rows d e ≡ follow (served (tree_said (Read root count)) es 0 z.answers) (with_cells d z.cells)
      read-follows =
          on-message ∙ ap (λ (i : ℕ). asked d (tree_of m i)) (sym k) ∙ ap (asked d) (tree-read m octets table root count h)

      desk-served : (o : Outcome) → called d root table' count m ≡ o
          → Agrees rows d e (then_of (desk root count table' o) m) (with_cells d o.cells)
      desk-served o q =
          let y = called-ready d root table' count m (ready m octets table root count h d g) in
          let x : laid z ≡ o = sym y ∙ q in
          let v = called-legal d root table' count m g in
          let said = tree_said (Read root count) in
          record {
            same =
                ap (λ (w : Outcome). follow (served said es w.number (take w.count w.answers)) (with_cells d w.cells)) (sym x)
                ∙ ap (λ (i : ℕ). follow (served said es i (take (laid z).count (laid z).answers)) (with_cells d (laid z).cells))
                (laid-is z).0
                ∙ ap (λ (ns : List ℕ). follow (served said es 0 ns) (with_cells d (laid z).cells)) (laid-tells z)
                ∙ ap (λ (c : Cells). follow (served said es 0 z.answers) (with_cells d c)) (laid-is z).1
                ∙ sym read-follows;
            legal = subst (λ (w : Outcome). desk_legal (with_cells d w.cells) ≡ true) q v;
          }

    is_read_lem : (root count : ℕ) (table'' : Rows) → read_at m table ≡ read_result (Read root count) table''
        → (o : Outcome) → called d root table'' count m ≡ o
        → Agrees rows d e (then_of (desk root count table'' o) m) (with_cells d o.cells)
    is_read_lem root count table'' q o p =
        let h : (read_at m table).answer ≡ Read root count = ap (λ (x : Result). x.answer) q in
        let y : (read_at m table).rows ≡ table'' = ap (λ (x : Result). x.rows) q in
        subst (λ (x : Rows). called d root x count m ≡ o
        → Agrees rows d e (then_of (desk root count x o) m) (with_cells d o.cells)) y (desk-served root count h o) p

pub comes-as : {rows : ℕ} {e : Event} {t : List ℕ} {d d' : Desk} {x : Later} → Comes rows e t d x d' → desk_legal d ≡ true → Below 256 (said_by e t).message
    → Agrees rows d (said_by e t) (then_of x (said_by e t).message) d'
comes-as {rows} {e} {t} {d} (ends h) g o = record { same = sym (nothing-follows rows d (said_by e t) (other e t h)); legal = g }
comes-as {rows} {t = t} {d = d} (reads {n = n} {b = b} table a table' k q h) g o = not-read rows d g n b t o table k a table' q h
comes-as {rows} {t = t} {d = d} (serves {n = n} {b = b} table root count table' r cells' k q p) g o =
    is_read_lem rows d g n b t o table k root count table' q (answered r cells') p

-- A legal desk stays legal over a turn, whatever the message holds.
pub comes-legal : {rows : ℕ} {e : Event} {t : List ℕ} {d d' : Desk} {x : Later} → Comes rows e t d x d' → desk_legal d ≡ true → desk_legal d' ≡ true
comes-legal (ends h) g = g
comes-legal (reads table a table' k q h) g = g
comes-legal {d = d} (serves table root count table' r cells' k q p) g =
    subst (λ (c : Cells). desk_legal (with_cells d c) ≡ true) (ap (λ (o : Outcome). o.cells) p)
    (called-legal d root table' count _ g)
