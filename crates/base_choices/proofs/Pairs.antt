-- Pairs in answers that are equal are equal part by part.
use Rattle.std.specs.Prelude.{◌≡◌, Result, Ok, Some}
use mathlib.Core.Path.{ap}

pub parts : {A B : Type 0} {a c : A} {b d : B} → ◌≡◌ {A = A × B} (a, b) (c, d) → (a ≡ c) × (b ≡ d)
parts e = (ap (λ p. p.0) e, ap (λ p. p.1) e)

pub ok-parts : {A B E : Type 0} {a c : A} {b d : B} → ◌≡◌ {A = Result (A × B) E} (Ok (a, b)) (Ok (c, d)) → (a ≡ c) × (b ≡ d)
ok-parts e = parts cc
