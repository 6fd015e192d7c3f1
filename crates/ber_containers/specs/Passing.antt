-- "a context tag we don't list is passed over, its value checked for tags, lengths and depth alone"
use Rattle.ber_containers.specs.declared.No.{No}
use Rattle.std.specs.Prelude.{ℕ, zero, suc, ◌-◌, ◌<◌, ◌≡◌, List, length, leb, eqb, Result, Ok, Err}
use Rattle.base_choices.specs.Choices.{pick}
use Rattle.ber_containers.specs.declared.Open.{Open}
use Rattle.ber_containers.specs.declared.Tag.{Tag}
use Rattle.ber_containers.specs.declared.Stands.{Stands}
use Rattle.ber_containers.specs.declared.Stands.TheVariants.{Ended, Here, Refused}
use Rattle.ber_containers.specs.declared.Crossing.{Crossing}
use Rattle.ber_containers.specs.declared.Crossing.TheVariants.{Over, Past, Into, Refused as Stuck}
use Rattle.ber_containers.specs.Ends.{no, standing_at}

-- the content of a tag that is not constructed
unfoldable pub skipped : List ℕ → Tag → Result ℕ No
skipped s t = pick (leb t.inner.end (length s)) (Ok t.inner.end) (Err (no 30 (length s)))

abbrev pub past_of : Result ℕ No → Crossing
past_of (Ok n) = Past n
past_of (Err n) = Stuck n

abbrev pub cross_of : List ℕ → ℕ → ℕ → Stands → Crossing
cross_of s p k (Ended n) = Over n
cross_of s p k (Here t) = pick (eqb t.constructed 1) (pick (eqb k 0) (Stuck (no 32 p)) (Into t)) (past_of (skipped s t))
cross_of s p k (Refused n) = Stuck n

-- one turn: the container's end, a value passed, or a container to go into
unfoldable pub cross_at : List ℕ → ℕ → Open → ℕ → Crossing
cross_at s p o k = cross_of s p k (standing_at s p o)

abbrev pub on_crossing : Crossing → (ℕ → Result ℕ No) → (Tag → Result ℕ No) → Result ℕ No
on_crossing (Over n) past into = Ok n
on_crossing (Past n) past into = past n
on_crossing (Into t) past into = into t
on_crossing (Stuck n) past into = Err n

abbrev pub onwards : Result ℕ No → (ℕ → Result ℕ No) → Result ℕ No
onwards (Ok n) go = go n
onwards (Err n) go = Err n

-- all that the open container o holds from p on, to the place after its end; f is more than what is left of the message
unfoldable pub through_by : ℕ → List ℕ → ℕ → Open → ℕ → Result ℕ No
through_by zero s k o p = Err (no 0 0)
through_by (suc f) s k o p =
    on_crossing (cross_at s p o k)
    (λ n. through_by f s k o n)
    (λ t. onwards (through_by f s (k - 1) t.inner t.start) (λ n. through_by f s k o n))

-- x is what every such f gives
abbrev pub Through : List ℕ → ℕ → Open → ℕ → Result ℕ No → Type 0
Through s k o p x = (f : ℕ) → length s - p < f → through_by f s k o p ≡ x

-- a tag's value, passed over, with k containers allowed inside the tag
unfoldable pub passed_at : List ℕ → Tag → ℕ → Result ℕ No
passed_at s t k = pick (eqb t.constructed 1) (through_by (suc (length s)) s k t.inner t.start) (skipped s t)
