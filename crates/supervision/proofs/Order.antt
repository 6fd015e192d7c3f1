-- Ticks that come out of order are shown as those of the latest time so far, and the promise holds of these.
use Rattle.std.proofs.Common.{◌≡◌, ℕ, ◌+◌, ◌<◌, ◌≤◌, Bool, true, false, ltb, leb, List, sym, refl, ap, ◌∙◌, subst, arith, le-ltb, lt-ltb, leb-false, leb-true}
use Rattle.base_choices.specs.Choices.{pick}
use Rattle.supervision.specs.declared.Answer.{Answer}
use Rattle.supervision.specs.declared.Link.{Link}
use Rattle.supervision.specs.Rules.{Showing}
use Rattle.supervision.specs.Supervisor.{elapsed, begun, shows}
use Rattle.supervision.specs.Promise.{tick_at, Often, Calls, Promised}
use Rattle.supervision.specs.Promise as said
use Rattle.supervision.specs.Order.{half, later_of, later_time, ordered, Near, LaterCalls, none, call}
use Rattle.supervision.proofs.Promise.{promise}

-- the two answers of `later`
pub takes-tick : {g : ℕ} (latest tick : ℕ) → g ≡ elapsed latest tick → g < half → tick ≡ later_of latest tick
unfolding later_of
takes-tick latest tick e h = sym (rw (lt-ltb _ _ (subst (λ (n : ℕ). n < half) e h)) refl)

pub keeps-latest : {g : ℕ} (latest tick : ℕ) → g ≡ elapsed latest tick → half ≤ g → latest ≡ later_of latest tick
unfolding later_of
keeps-latest latest tick e h = sym (rw (le-ltb _ _ (subst (λ (n : ℕ). half ≤ n) e h)) refl)

ahead : (o a b : ℕ) → a ≤ b → b < a + half → elapsed (tick_at o a) (tick_at o b) < half
ahead o a b h k = omega arith

behind : (o a b : ℕ) → b < a → a ≤ b + half → half ≤ elapsed (tick_at o a) (tick_at o b)
behind o a b h k = omega arith

-- Of the ticks of two times, less than half the range apart, `later_of` gives that of the later one.
pub later-time : (o a b : ℕ) → b < a + half → a ≤ b + half → later_of (tick_at o a) (tick_at o b) ≡ tick_at o (later_time a b)
unfolding later_of
later-time o a b h k = go (leb a b) refl
  where
    go : (u : Bool) → leb a b ≡ u → pick (ltb (elapsed (tick_at o a) (tick_at o b)) half) (tick_at o b) (tick_at o a) ≡ tick_at o (later_time a b)
    go true e = rw (e, lt-ltb _ _ (ahead o a b (leb-true a b e) h)) refl
    go false e = rw (e, le-ltb _ _ (behind o a b (leb-false a b e) k)) refl

as-calls : {o t : ℕ} {l l' : Link} {xs : List Showing} {rs : List Answer} → LaterCalls o t l xs rs l' → (a : ℕ) → t ≡ tick_at o a → Near a xs
    → Calls o l (ordered a xs) rs l'
as-calls none a p n = said.none
as-calls {o = o} {l = l} (call x u r e f rest) a p (h, (k, n)) =
    let g : u ≡ tick_at o (later_time a x.time) = e ∙ ap (λ (t : ℕ). later_of t (tick_at o x.time)) p ∙ later-time o a x.time h k in
    said.call _ r (f ∙ ap (λ (t : ℕ). shows l t x.happened) g) (as-calls rest (later_time a x.time) g n)

-- THE PROMISE for ticks out of order, over every list of showings from the start s up to the present z, none half the range away from the latest before it: if
-- each is shown at the tick that `later` gives, then all that is promised holds of the latest times.
pub promise-later : {o s z : ℕ} {xs : List Showing} {rs : List Answer} {l' : Link}
    → Near s xs → LaterCalls o (tick_at o s) (begun (tick_at o s)) xs rs l' → Often s (ordered s xs) z → Promised s z (ordered s xs) rs
promise-later {s = s} n k often = promise (as-calls k s refl n) often
