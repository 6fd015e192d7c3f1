-- What the types of an entry's members hold: integers of 64 bits, doubles, places of 32 bits; and a real is a number.
use Rattle.std.specs.Prelude.{◌<◌, ◌^◌, not, T, ℤ, pos, negsuc, ℕ, Option, Some, None}
use Rattle.std.specs.Float.Ieee as Ieee
use Rattle.std.specs.Float.{binary64}
use Rattle.ber_values.specs.declared.Value.{Value}
use Rattle.ber_values.specs.declared.Value.TheVariants.{Absent, Int, Real, Text, Bool as Truth, Octets}
use Rattle.glow_entries.specs.declared.Key.{Key}
use Rattle.glow_entries.specs.declared.Key.TheVariants.{Number as ByNumber, Path as ByPath}
use Rattle.glow_entries.specs.declared.Parameter.{Parameter}
use Rattle.glow_entries.specs.declared.Node.{Node}
use Rattle.glow_entries.specs.declared.Matrix.{Matrix}
use Rattle.glow_entries.specs.declared.Command.{Command}
use Rattle.glow_entries.specs.declared.Connection.{Connection}
use Rattle.glow_entries.specs.declared.Stream.{Stream}

abbrev pub HeldInt : ℤ → Type 0
HeldInt (pos n) = n < 2 ^ 63
HeldInt (negsuc n) = n < 2 ^ 63

abbrev pub HeldNumber : Option ℤ → Type 0
HeldNumber None = Unit {0}
HeldNumber (Some z) = HeldInt z

abbrev pub HeldKey : Key → Type 0
HeldKey (ByNumber z) = HeldInt z
HeldKey (ByPath start len) = Unit {0}

abbrev pub HeldParent : Option ℕ → Type 0
HeldParent None = Unit {0}
HeldParent (Some i) = i < 2 ^ 32

abbrev pub HeldValue : Value → Type 0
HeldValue Absent = Unit {0}
HeldValue (Int z) = HeldInt z
HeldValue (Real x) = T (Ieee.fits binary64 x) × T (not (Ieee.is_nan x))
HeldValue (Text start len) = Unit {0}
HeldValue (Truth b) = Unit {0}
HeldValue (Octets start len) = Unit {0}

-- a value that is there
abbrev pub Present : Value → Type 0
Present Absent = ⊥
Present (Int z) = Unit {0}
Present (Real x) = Unit {0}
Present (Text start len) = Unit {0}
Present (Truth b) = Unit {0}
Present (Octets start len) = Unit {0}

pub record HeldParameter (e : Parameter) : Type 0 where
  pub parent : HeldParent e.parent
  pub key : HeldKey e.key
  pub value : HeldValue e.value
  pub minimum : HeldValue e.minimum
  pub maximum : HeldValue e.maximum
  pub access : HeldNumber e.access
  pub factor : HeldNumber e.factor
  pub step : HeldNumber e.step
  pub stream : HeldNumber e.stream

pub record HeldNode (e : Node) : Type 0 where
  pub parent : HeldParent e.parent
  pub key : HeldKey e.key

pub record HeldMatrix (e : Matrix) : Type 0 where
  pub parent : HeldParent e.parent
  pub key : HeldKey e.key
  pub matrix_type : HeldNumber e.matrix_type
  pub mode : HeldNumber e.mode
  pub targets : HeldNumber e.targets
  pub sources : HeldNumber e.sources
  pub total_limit : HeldNumber e.total_limit
  pub target_limit : HeldNumber e.target_limit

pub record HeldCommand (e : Command) : Type 0 where
  pub parent : HeldParent e.parent
  pub number : HeldInt e.number
  pub mask : HeldNumber e.mask

pub record HeldConnection (e : Connection) : Type 0 where
  pub parent : HeldParent e.parent
  pub target : HeldInt e.target
  pub operation : HeldNumber e.operation

pub record HeldStream (e : Stream) : Type 0 where
  pub parent : HeldParent e.parent
  pub identifier : HeldInt e.identifier
  pub value : HeldValue e.value
  pub present : Present e.value
