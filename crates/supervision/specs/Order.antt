-- For hosts that cannot promise order: of two ticks the later one, by the shorter way round, so that a tick that is behind by half the range at most counts as
-- no time passed. And the words of the promise for them.
use Rattle.std.specs.Prelude.{◌≡◌, ℕ, ◌+◌, ◌<◌, ◌≤◌, List, [], ◌∷◌, nat_le, nat_lt}
use Rattle.base_choices.specs.Choices.{pick}
use Rattle.supervision.specs.declared.Answer.{Answer}
use Rattle.supervision.specs.declared.Link.{Link}
use Rattle.supervision.specs.declared.Shown.{Shown}
use Rattle.supervision.specs.Rules.{Showing}
use Rattle.supervision.specs.Supervisor.{elapsed, shows}
use Rattle.supervision.specs.Promise.{tick_at}

-- half the range, 2^31
abbrev pub half : ℕ
half = 2147483648

-- the later of the latest tick so far and this one
unfoldable pub later_of : ℕ → ℕ → ℕ
later_of latest tick = pick (nat_lt (elapsed latest tick) half) tick latest

-- the later of two true times
abbrev pub later_time : ℕ → ℕ → ℕ
later_time a b = pick (nat_le a b) b a

-- Showings in the order in which they come, each at the latest time so far.
abbrev pub ordered : ℕ → List Showing → List Showing
ordered a [] = []
ordered a (x ∷ xs) = record { time = later_time a x.time; happened = x.happened } ∷ ordered (later_time a x.time) xs

-- None is half the range away from the latest before it, ahead or behind.
abbrev pub Near : ℕ → List Showing → Type 0
Near a [] = Unit {0}
Near a (x ∷ xs) = (x.time < a + half) × ((a ≤ x.time + half) × Near (later_time a x.time) xs)

-- Calls one after another: of `later`, with the tick that it gave before, and of `show`, with the tick that it gives now. What they give is what their
-- contracts say.
pub data LaterCalls : ℕ → ℕ → Link → List Showing → List Answer → Link → Type 0 where
  none : {o t : ℕ} {l : Link} → LaterCalls o t l [] [] l
  call : {o t : ℕ} {l l' : Link} {xs : List Showing} {rs : List Answer} (x : Showing) (u : ℕ) (r : Shown)
      → u ≡ later_of t (tick_at o x.time) → r ≡ shows l u x.happened → LaterCalls o u r.link xs rs l'
      → LaterCalls o t l (x ∷ xs) (r.answer ∷ rs) l'
