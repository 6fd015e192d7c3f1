use Prim.Native.Nat.{ℕ}
use mathlib.Core.Bool.{Bool}
use mathlib.Core.List.{[]}
use mathlib.Core.Path.{◌≡◌, refl, sym, ap, ◌∙◌}
use native.Mathlib.Omega.{arith}
use Rattle.framing_session.specs.declared.Event.{Event}
use Rattle.framing_session.specs.declared.Event.TheVariants as ev
use Rattle.framing_session.proofs.Laws.{number-high}
use Rattle.framing_session.specs.Session.{said_by}
use Rattle.framing_events.specs.Events.{length_of}
use Rattle.base_output.proofs.Laws.{wrote_then}
use Rattle.framing_lines.proofs.Laws.{event-plain, event-message}
use Rattle.framing_lines.proofs.put_event_line.Goals as goal

-- the `else` of the `let .. else`: no other event has the number 3
other : (e : Event) → ((n : ℕ) (d : Bool) → e ≡ ev.Message n d → ⊥) → (said_by e []).number ≡ 3 → ⊥
other ev.More k h = omega arith
other ev.Setup k h = omega arith
other (ev.Piece d) k h = omega arith
other (ev.Message n d) k h = k n d refl
other ev.Request k h = omega arith
other ev.Response k h = omega arith
other (ev.Refused f d) k h = omega (arith, number-high f)

pub returns-in_default : goal.returns-in_default
returns-in_default c =
    let no : c.number.result ≡ 3 → ⊥ = λ e. other c.args.event c.in_default.not-Message (sym c.number.ensures ∙ e) in record {
      store_value = rw (event-plain c.args.offset c.args.event c.args.store.now _ _ c.number.ensures c.is_discarded.ensures no)
          (wrote_then _ _ _ _ c.put_head-head_end.ensures.discarded_value ∙ c.put.ensures.b_value (omega arith));
      upper_bound = omega arith;
    }

pub returns : goal.returns
returns c =
    let e = c.in-Message.is in
    let three = c.number.ensures ∙ ap (λ (e : Event). (said_by e []).number) e in record {
      store_value = rw (event-message c.args.offset c.args.event c.args.store.now _ _ c.number.ensures c.is_discarded.ensures three, ap length_of e)
          (wrote_then _ _ _ _ c.put_head-head_end.ensures.discarded_value
          ∙ wrote_then _ _ _ _ c.put_message-message_end.ensures.store_value
          ∙ c.put-2.ensures.b_value (omega arith));
      upper_bound = omega arith;
    }
