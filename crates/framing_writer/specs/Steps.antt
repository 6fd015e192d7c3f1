-- For the functions of this crate.
use Rattle.std.specs.Prelude.{ℕ}

-- no place that the writer comes to is past this
abbrev pub room : ℕ
room = 65536
