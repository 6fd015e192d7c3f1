-- Under the premise the wrapping difference is the true gap, and so the supervisor does what the rules do.
use Rattle.std.proofs.Common.{◌≡◌, ℕ, ◌+◌, ◌-◌, ◌<◌, ◌≤◌, Bool, true, false, leb, sym, refl, ◌∙◌, arith, le-leb, leb-false, leb-true}
use borrow.Author.Tests.{lt-leb}
use Rattle.base_choices.specs.Choices.{pick}
use Rattle.supervision.specs.declared.Happened.{Happened}
use Rattle.supervision.specs.declared.Happened.TheVariants.{Nothing, Event, Request}
use Rattle.supervision.specs.declared.Link.{Link}
use Rattle.supervision.specs.declared.Link.TheVariants.{Silent, Asked, Dead}
use Rattle.supervision.specs.declared.Shown.{Shown}
use Rattle.supervision.specs.Rules.{State, silent, asked, dead, Step, due, waits, hears, step}
use Rattle.supervision.specs.Supervisor.{wrap, elapsed, is_due, waited, heard, shows}
use Rattle.supervision.specs.Promise.{tick_at}

-- "shown equal to the true gap under the shown-often premise" (document 01, "Forms"): of two times less than 2^32 ms apart the ticks' wrapping
-- difference is the
-- gap. That what is waited for is never that long ago where showings are often enough is `Holds`, kept by each showing (`same_step`).
pub elapsed-gap : (o t b : ℕ) → t ≤ b → b < t + wrap → elapsed (tick_at o t) (tick_at o b) ≡ b - t
elapsed-gap o t b h k = omega arith

leb-shift : (t b : ℕ) → leb 5000 (b - t) ≡ leb (t + 5000) b
leb-shift t b = go (leb 5000 (b - t)) refl
  where
    go : (u : Bool) → leb 5000 (b - t) ≡ u → leb 5000 (b - t) ≡ leb (t + 5000) b
    go true e = e ∙ sym (le-leb (t + 5000) b (omega (arith, leb-true 5000 (b - t) e)))
    go false e = e ∙ sym (lt-leb (t + 5000) b (omega (arith, leb-false 5000 (b - t) e)))

due-same : (o t b : ℕ) → t ≤ b → b < t + wrap → is_due (tick_at o t) (tick_at o b) ≡ due t b
due-same o t b h k = rw (elapsed-gap o t b h k) (leb-shift t b)

-- What the supervisor's state stands for after a showing at the time a: what it waits for began less than 5,000 ms ago.
pub data Holds (o a : ℕ) : Link → State → Type 0 where
  still : {t : ℕ} → t ≤ a → a < t + 5000 → Holds o a (Silent (tick_at o t)) (silent t)
  waiting : {t : ℕ} → t ≤ a → a < t + 5000 → Holds o a (Asked (tick_at o t)) (asked t)
  gone : Holds o a Dead dead

pub record Same (o a : ℕ) (r : Shown) (w : Step) : Type 0 where
  pub answer : r.answer ≡ w.answer
  pub holds : Holds o a r.link w.next

pick-both : {A B : Type 0} (P : A → B → Type 0) {a b : A} {a' b' : B} (u : Bool) → (u ≡ true → P a a') → (u ≡ false → P b b') → P (pick u a b) (pick u a' b')
pick-both P true f g = f refl
pick-both P false f g = g refl

module _ (o : ℕ) {a : ℕ} (b : ℕ) (h : a ≤ b) (k : b ≤ a + 1000) where
  same-waits : {l : Link} {s : State} → Holds o a l s → Same o b (waited l (tick_at o b)) (waits s b)
  unfolding waited
  same-waits (still {t} m n) =
      rw (due-same o t b (omega arith) (omega arith))
      (pick-both (Same o b) (due t b) (λ e. record { answer = refl; holds = waiting {t = b} (omega arith) (omega arith) })
      (λ e. record { answer = refl; holds = still {t = t} (omega arith) (omega (arith, leb-false (t + 5000) b e)) }))
  same-waits (waiting {t} m n) =
      rw (due-same o t b (omega arith) (omega arith))
      (pick-both (Same o b) (due t b) (λ e. record { answer = refl; holds = gone })
      (λ e. record { answer = refl; holds = waiting {t = t} (omega arith) (omega (arith, leb-false (t + 5000) b e)) }))
  same-waits gone = record { answer = refl; holds = gone }

  holds-hears : {l : Link} {s : State} → Holds o a l s → Holds o b (heard l (tick_at o b)) (hears s b)
  holds-hears (still m n) = still {t = b} (omega arith) (omega arith)
  holds-hears (waiting m n) = still {t = b} (omega arith) (omega arith)
  holds-hears gone = gone

module _ (o : ℕ) {a : ℕ} (b : ℕ) (h : a ≤ b) (k : b ≤ a + 1000) where
  -- a showing
  pub same_step : {l : Link} {s : State} (x : Happened) → Holds o a l s → Same o b (shows l (tick_at o b) x) (step s b x)
  unfolding shows
  same_step Nothing q = same-waits o b h k q
  same_step Event q = same-waits o b (omega arith) (omega arith) (holds-hears o b h k q)
  same_step Request q = record { answer = refl; holds = holds-hears o b h k q }
