-- The writer's spelling of reals, among all that are read: "Written with scale 0, odd mantissa, fewest octets" (document 01, "Values").
use Rattle.std.specs.Prelude.{◌≡◌}
use Rattle.ber_reals.specs.Means.{Plain}
use Rattle.encodings.specs.Values.{Values, end, plain, nest}

-- every real among the values has scale 0 and an odd mantissa
abbrev pub PlainReals : Values → Type 0
PlainReals end = Unit {0}
PlainReals (plain class n content rest) = (class ≡ 0 → n ≡ 9 → Plain content) × PlainReals rest
PlainReals (nest form class n inside rest) = PlainReals inside × PlainReals rest
