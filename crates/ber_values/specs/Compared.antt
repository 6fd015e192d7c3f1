-- The words of the round trip (`written-read-value`, proofs/RoundTrip.antt): which values there are, and how two are compared where texts and octets stand in
-- different messages.
use Rattle.std.specs.Prelude.{ℕ, ◌-◌, List, [], take, drop, T}
use Rattle.std.specs.Float.Ieee as Ieee
use Rattle.std.specs.Float.{binary64}
use Rattle.std.specs.Int.{w64}
use Rattle.std.proofs.Common.{SFits}
use Rattle.ber_values.specs.declared.Value.{Value}
use Rattle.ber_values.specs.declared.Value.TheVariants.{Absent, Int, Real, Text, Bool as Truth, Octets}

-- A value of the code's types: a number of 64 bits, a double.
abbrev pub Held : Value → Type 0
Held Absent = Unit {0}
Held (Int z) = SFits w64 z
Held (Real x) = T (Ieee.fits binary64 x)
Held (Text start len) = Unit {0}
Held (Truth b) = Unit {0}
Held (Octets start len) = Unit {0}

-- A value as it is found in an output that was written up to e: the same, with texts and octets where they stand now.
abbrev pub moved : ℕ → Value → Value
moved e Absent = Absent
moved e (Int z) = Int z
moved e (Real x) = Real x
moved e (Text start len) = Text (e - len) len
moved e (Truth b) = Truth b
moved e (Octets start len) = Octets (e - len) len

-- The octets of a text or of octets.
abbrev pub octets_of : List ℕ → Value → List ℕ
octets_of s Absent = []
octets_of s (Int z) = []
octets_of s (Real x) = []
octets_of s (Text start len) = take len (drop start s)
octets_of s (Truth b) = []
octets_of s (Octets start len) = take len (drop start s)
