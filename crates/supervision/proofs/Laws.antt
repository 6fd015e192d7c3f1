-- Laws of the supervisor over ticks, at plain variables.
use Rattle.std.proofs.Common.{◌≡◌, ℕ, ◌<◌, ◌≤◌, refl, le-leb}
use borrow.Author.Tests.{lt-leb}
use Rattle.framing_content.specs.declared.Fault.{Fault}
use Rattle.framing_content.specs.declared.Fault.TheVariants as fault
use Rattle.framing_content.specs.Numbers.{number}
use Rattle.supervision.specs.declared.Answer.TheVariants as say
use Rattle.supervision.specs.declared.Happened.{Happened}
use Rattle.supervision.specs.declared.Happened.TheVariants as happened
use Rattle.supervision.specs.declared.Link.{Link}
use Rattle.supervision.specs.declared.Link.TheVariants.{Silent, Asked, Dead}
use Rattle.supervision.specs.Events.{happened_by}
use Rattle.supervision.specs.Supervisor.{elapsed, gone, waited, heard, shows}

-- ---- what is due

module _ {l : Link} (since tick : ℕ) {g : ℕ} (gap : g ≡ elapsed since tick) where
  pub asks : l ≡ Silent since → 5000 ≤ g → waited l tick ≡ record { answer = say.Ask; link = Asked tick }
  unfolding waited
  asks e h = rw (e, ← gap, le-leb _ _ h)

  pub rests : l ≡ Silent since → g < 5000 → waited l tick ≡ record { answer = say.Nothing; link = Silent since }
  unfolding waited
  rests e h = rw (e, ← gap, lt-leb _ _ h)

  pub dies : l ≡ Asked since → 5000 ≤ g → waited l tick ≡ gone
  unfolding waited
  dies e h = rw (e, ← gap, le-leb _ _ h)

  pub hopes : l ≡ Asked since → g < 5000 → waited l tick ≡ record { answer = say.Nothing; link = Asked since }
  unfolding waited
  hopes e h = rw (e, ← gap, lt-leb _ _ h)

pub stays_dead : {l : Link} (tick : ℕ) → l ≡ Dead → waited l tick ≡ gone
unfolding waited
stays_dead tick e = rw e

-- ---- any showing

module _ (l : Link) (tick : ℕ) {h : Happened} where
  pub shows_nothing : h ≡ happened.Nothing → shows l tick h ≡ waited l tick
  unfolding shows
  shows_nothing e = rw e

  pub shows-event : {m : Link} → h ≡ happened.Event → m ≡ heard l tick → shows l tick h ≡ waited m tick
  unfolding shows
  shows-event e f = rw (e, f)

  pub shows-request : {m : Link} → h ≡ happened.Request → m ≡ heard l tick → shows l tick h ≡ record { answer = say.Respond; link = m }
  unfolding shows
  shows-request e f = rw (e, f)

-- ---- the number of a refusal

pub refused-counts : (f : Fault) → happened_by (number f) ≡ happened.Event
refused-counts fault.Stray = refl
refused-counts fault.Cut = refl
refused-counts fault.Byte = refl
refused-counts fault.Long = refl
refused-counts fault.Escape = refl
refused-counts fault.Short = refl
refused-counts fault.Crc = refl
refused-counts fault.Header = refl
refused-counts fault.Flags = refl
refused-counts fault.Dtd = refl
refused-counts fault.Orphan = refl
refused-counts fault.Big = refl
