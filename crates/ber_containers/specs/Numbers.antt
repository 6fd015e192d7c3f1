-- With which of document 01's numbers each call refuses: the answer carries the number beside its place.
use Rattle.ber_containers.specs.declared.No.{No}
use Rattle.ber_containers.specs.declared.Tag.{Tag}
use Rattle.std.specs.Prelude.{ℕ, List, [], ◌∷◌, Result, Ok, Err}
use types.Run.{OneOf}
use Rattle.ber_containers.specs.declared.Stands.{Stands}
use Rattle.ber_containers.specs.declared.Stands.TheVariants.{Ended, Here, Refused}

-- what stands at a place: "30 BER: bad tag, length .., a tag 00 that ends nothing, bytes run out"
abbrev pub stand_numbers : List ℕ
stand_numbers = 30 ∷ []

-- .. and no container too many, "32 DEPTH: 65th container"; so also what is passed over
abbrev pub enter_numbers : List ℕ
enter_numbers = 30 ∷ 32 ∷ []

-- the one value of an outer tag: also "31 FORM: unlike forms" and "33 GLOW: .. a member or value missing"
abbrev pub first_numbers : List ℕ
first_numbers = 30 ∷ 31 ∷ 32 ∷ 33 ∷ []

-- nothing after it: also "33 GLOW: a tag unexpected"
abbrev pub last_numbers : List ℕ
last_numbers = 30 ∷ 32 ∷ 33 ∷ []

-- refused, if at all, with one of these numbers
abbrev pub StandsBy : List ℕ → Stands → Type 0
StandsBy ks (Ended n) = Unit {0}
StandsBy ks (Here t) = Unit {0}
StandsBy ks (Refused e) = OneOf ks e.0

abbrev pub FoundBy : List ℕ → Result Tag No → Type 0
FoundBy ks (Ok t) = Unit {0}
FoundBy ks (Err e) = OneOf ks e.0

abbrev pub OntoBy : List ℕ → Result ℕ No → Type 0
OntoBy ks (Ok n) = Unit {0}
OntoBy ks (Err e) = OneOf ks e.0
