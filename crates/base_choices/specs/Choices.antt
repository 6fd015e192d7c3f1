-- Choices by a test, for the definitions of every layer.
use Rattle.std.specs.Prelude.{Bool, true, false}

-- the first where the test holds, else the second
abbrev pub pick : {X : Type 0} → Bool → X → X → X
pick true a b = a
pick false a b = b

-- a test and its refusal side by side, then what follows where the test holds
abbrev pub unless : {X : Type 0} → Bool → X → X → X
unless t refusal next = pick t next refusal

abbrev pub both : Bool → Bool → Bool
both true b = b
both false b = false
