-- The first check that fails: 0 where none does, the other way round, and what holds of its number.
use Prim.Native.Nat.{ℕ, ◌<◌}
use mathlib.Core.Path.{◌≡◌, refl}
use mathlib.Core.List.{List, [], ◌∷◌}
use mathlib.Core.Bool.{Bool, true, false}
use native.Mathlib.Omega.{arith}
use Rattle.base_choices.specs.Choices.{pick}
use Rattle.desk_requests.specs.Request.{Check, first_of}

abbrev pub Each : (Check → Type 0) → List Check → Type 0
Each P [] = Unit {0}
Each P (x ∷ xs) = P x × Each P xs

pub none-fails : (cs : List Check) → Each (λ c. 0 < c.number) cs → first_of cs ≡ 0 → Each (λ c. c.fails ≡ false) cs
unfolding first_of
none-fails [] n h = tt
none-fails (c ∷ cs) n h = go c.fails refl h (none-fails cs n.1)
  where
    go : (b : Bool) → c.fails ≡ b → pick b c.number (first_of cs) ≡ 0 → (first_of cs ≡ 0 → Each (λ x. x.fails ≡ false) cs)
        → (c.fails ≡ false) × Each (λ x. x.fails ≡ false) cs
    go true e z r = absurd (omega (arith, z, n.0))
    go false e z r = (e, r z)

pub all_pass : (cs : List Check) → Each (λ c. c.fails ≡ false) cs → first_of cs ≡ 0
unfolding first_of
all_pass [] h = refl
all_pass (c ∷ cs) h = rw h.0 (all_pass cs h.1)

-- what holds of 0 and of the number of each check that fails
pub first_by : (P : ℕ → Type 0) (cs : List Check) → P 0 → Each (λ c. c.fails ≡ true → P c.number) cs → P (first_of cs)
unfolding first_of
first_by P [] z h = z
first_by P (c ∷ cs) z h = go c.fails refl (first_by P cs z h.1)
  where
    go : (b : Bool) → c.fails ≡ b → P (first_of cs) → P (pick b c.number (first_of cs))
    go true e r = h.0 e
    go false e r = r
