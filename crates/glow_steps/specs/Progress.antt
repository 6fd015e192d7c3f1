-- How far on a turn's answer is.
use Rattle.std.specs.Prelude.{ℕ, ◌≤◌, ◌<◌, List, length}
use Rattle.glow_steps.specs.declared.Member.{Member}
use Rattle.glow_steps.specs.declared.Member.TheVariants.{Done, Over, Leaf, Contents, Items, Refused as NoMember}
use Rattle.glow_steps.specs.declared.Item.{Item}
use Rattle.glow_steps.specs.declared.Item.TheVariants.{Done as NoMore, Element, Refused as NoItem}

abbrev pub MemberOnward : List ℕ → ℕ → Member → Type 0
MemberOnward s p (Done next) = p ≤ next
MemberOnward s p (Over before next) = (p < length s) × (p < next)
MemberOnward s p (Leaf before c v above next) = (p < length s) × (p < next)
MemberOnward s p (Contents before outer g k) = (p < length s) × (p < g.start)
MemberOnward s p (Items before which outer g k) = (p < length s) × (p < g.start)
MemberOnward s p (NoMember e) = Unit {0}

-- a container to go into that starts at `start` is ahead of every place before it
abbrev pub InnerOnward : ℕ → Member → Type 0
InnerOnward start r = (s : List ℕ) (p : ℕ) → p < length s → p < start → MemberOnward s p r

abbrev pub ItemOnward : List ℕ → ℕ → Item → Type 0
ItemOnward s p (NoMore next) = p ≤ next
ItemOnward s p (Element kind outer g k) = (p < length s) × (p < g.start)
ItemOnward s p (NoItem e) = Unit {0}
