-- How far on an answer is: what the second `ensures` of a function says. It ends the loops and the recursion, and keeps sums from wrapping.
use Rattle.ber_containers.specs.declared.No.{No}
use Rattle.std.specs.Prelude.{ℕ, ◌+◌, ◌≤◌, ◌<◌, List, length, Result, Ok, Err}
use Rattle.ber_tags.specs.declared.Length.{Length}
use Rattle.ber_tags.specs.declared.Length.TheVariants.{Definite, Indefinite}
use Rattle.ber_containers.specs.declared.Tag.{Tag}
use Rattle.ber_containers.specs.declared.Stands.{Stands}
use Rattle.ber_containers.specs.declared.Stands.TheVariants.{Ended, Here, Refused}
use Rattle.ber_containers.specs.declared.Crossing.{Crossing}
use Rattle.ber_containers.specs.declared.Crossing.TheVariants.{Over as Ends, Past, Into, Refused as Stuck}

-- a tag that was read at p stands in the message and is left behind
pub record Ahead (s : List ℕ) (p : ℕ) (t : Tag) : Type 0 where
  pub within : p < length s
  pub later : p < t.start
  pub small : t.number < 268435456
  pub opens : t.start ≤ t.inner.end

-- a length that was read stays within its container
abbrev pub Fits : ℕ → ℕ → Length → Type 0
Fits bound next (Definite n) = next + n ≤ bound
Fits bound next Indefinite = next ≤ bound

abbrev pub Onward : List ℕ → ℕ → Stands → Type 0
Onward s p (Ended n) = p ≤ n
Onward s p (Here t) = Ahead s p t
Onward s p (Refused n) = Unit {0}

abbrev pub FoundOnward : List ℕ → ℕ → Result Tag No → Type 0
FoundOnward s p (Ok t) = Ahead s p t
FoundOnward s p (Err n) = Unit {0}

abbrev pub OntoOnward : ℕ → Result ℕ No → Type 0
OntoOnward p (Ok n) = p ≤ n
OntoOnward p (Err n) = Unit {0}

abbrev pub CrossOnward : List ℕ → ℕ → Crossing → Type 0
CrossOnward s p (Ends n) = p ≤ n
CrossOnward s p (Past n) = (p < length s) × (p < n)
CrossOnward s p (Into t) = Ahead s p t
CrossOnward s p (Stuck n) = Unit {0}
