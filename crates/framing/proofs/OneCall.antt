-- What a call over a chunk makes of the stream.
use Prim.Native.Nat.{ℕ, suc, ◌+◌, ◌≤◌}
use mathlib.Core.Bool.{Bool, true, false}
use mathlib.Core.Path.{◌≡◌, refl, ap, subst, ◌∙◌}
use mathlib.Core.List.{List, [], ◌∷◌}
use native.Mathlib.Omega.{arith}
use lib.Dec.{eqb}
use lib.ListN.{length, take}
use Rattle.base_choices.specs.Choices.{pick}
use Rattle.framing_content.specs.Numbers.{store_length}
use Rattle.framing_session.specs.Rules.{State, Said, Step, step, noted, happens, after}
use Rattle.framing_session.specs.Session.{state_of, session_of, Legal, kept, Whole, whole, run}
use Rattle.framing.specs.Offers.{EndsWith}
use Rattle.framing_session.proofs.Laws.{Bounded, Within, within_step, bounded-next, frame_bound, message-bound, legal-next, kept-state, kept-length}

-- What a run over c, from the state s with i bytes consumed before, gives: it consumes d bytes, all of them or up to one event.
pub record Ran (c : List ℕ) (s : State) (i : ℕ) (w : Whole) : Type 0 where
  pub d : ℕ
  pub counted : w.consumed ≡ i + d
  pub offered : d ≤ length c
  pub all : eqb w.said.number 0 ≡ true → d ≡ length c
  pub told : (n : ℕ) → happens s n (take d c) ≡ noted w.said (n + d) []
  pub stops : eqb w.said.number 0 ≡ false → EndsWith s (take d c) w.said
  pub legal : Legal w.session w.store
  pub held : state_of w.session w.store ≡ after s (take d c)

-- a byte without an event before bytes that end with one
ends-later : (x : ℕ) (s : State) {bytes : List ℕ} {e : Said} → eqb (step s x).said.number 0 ≡ true → EndsWith (step s x).next bytes e
    → EndsWith s (x ∷ bytes) e
unfolding happens after
ends-later x s q k =
    record {
      front = x ∷ k.front;
      byte = k.byte;
      bytes-are = ap (λ (r : List ℕ). x ∷ r) k.bytes-are;
      none_before = λ n. rw q (k.none_before (n + 1));
      event-is = k.event-is;
    }

-- a byte that makes no event, and one that makes one
module _ (x : ℕ) (xs : List ℕ) (s : State) (t : List ℕ) (i : ℕ) where
  abbrev o : Step
  o = step s x

  ran-more : eqb o.said.number 0 ≡ true → Ran xs o.next (i + 1) (run xs o.next (kept o t) (i + 1))
      → Ran (x ∷ xs) s i (run xs o.next (kept o t) (i + 1))
  unfolding happens after
  ran-more e r =
      record {
        d = suc r.d;
        counted = omega (arith, r.counted);
        offered = omega (arith, r.offered);
        all = λ q. ap suc (r.all q);
        told = λ n. rw e (r.told (n + 1) ∙ ap (λ (k : ℕ). noted (run xs o.next (kept o t) (i + 1)).said k []) (omega arith));
        stops = λ q. ends-later x s e (r.stops q);
        legal = r.legal;
        held = r.held;
      }

  ran-event : length t ≡ store_length → Within o → eqb o.said.number 0 ≡ false → Ran (x ∷ xs) s i (whole o.said (i + 1) o.next (kept o t))
  unfolding happens after
  ran-event room w e =
      record {
        d = 1;
        counted = refl;
        offered = omega arith;
        all = λ q. let z : ◌≡◌ {A = ℕ} 0 1 = cc in absurd (omega arith);
        told = λ n. refl;
        stops = λ q. record { front = []; byte = x; bytes-are = refl; none_before = λ n. refl; event-is = refl };
        legal = legal-next o t room w;
        held = kept-state o t room w;
      }

pub ran : (c : List ℕ) (s : State) (t : List ℕ) (i : ℕ) → length t ≡ store_length → Bounded s → state_of (session_of s) t ≡ s → Ran c s i (run c s t i)
unfolding run happens after
ran [] s t i room b h =
    record {
      d = 0;
      counted = omega arith;
      offered = omega arith;
      all = λ e. refl;
      told = λ n. refl;
      stops = λ e. let z : ◌≡◌ {A = ℕ} 0 1 = cc in absurd (omega arith);
      legal = subst (λ (x : List ℕ). Legal (session_of s) x) refl (record { room = room; frame = frame_bound s b; message = message-bound s b });
      held = h;
    }
ran (x ∷ xs) s t i room b h =
    let w = within_step s x b in
    go (eqb (step s x).said.number 0) refl
    (ran xs (step s x).next (kept (step s x) t) (i + 1) (kept-length (step s x) t room w) (bounded-next (step s x) w) (kept-state (step s x) t room w))
    w
  where
    go : (u : Bool) → eqb (step s x).said.number 0 ≡ u
        → Ran xs (step s x).next (i + 1) (run xs (step s x).next (kept (step s x) t) (i + 1)) → Within (step s x)
        → Ran (x ∷ xs) s i (pick u (run xs (step s x).next (kept (step s x) t) (i + 1)) (whole (step s x).said (i + 1) (step s x).next (kept (step s x) t)))
    go true e r w = ran-more x xs s t i e r
    go false e r w = ran-event x xs s t i room w e
