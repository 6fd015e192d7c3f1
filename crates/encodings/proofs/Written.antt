-- The writer's message encodes its tree (`message-encodes`, `written-encodes`). None of the tree's encodings with reals of scale 0 and odd mantissa, the
-- form that is
-- written, is shorter (`written-shortest`). With reals in the fewest octets the message is the shortest of all (`least-encodes`, `least-shortest`).
use Rattle.std.specs.Prelude.{Some}
use Prim.Native.Nat.{ℕ, ◌≤◌, ◌<◌}
use mathlib.Core.Path.{◌≡◌, sym, ap, subst, ◌∙◌}
use mathlib.Core.List.{List}
use mathlib.Core.Bool.{true}
use mathlib.Core.Logic.{⊎_elim}
use native.Mathlib.Omega.{arith}
use lib.ListN.{length, take, drop}
use lib.Seq.{take_at}
use lib.Ieee as Ieee
use lib.Ieee.{Float, binary64}
use lib.Ieee.Bits.{of_bits-to_bits, of_bits-fits}
use Rattle.ber_integers.specs.Digits.{outcome}
use Rattle.ber_integers.proofs.Radix.{Below, lt-or-le}
use Rattle.ber_reals.specs.Write.{Form, form}
use Rattle.ber_reals.specs.Means.{Means, Plain}
use Rattle.ber_reals.proofs.Exactly.{exactly}
use Rattle.ber_reals.proofs.RoundTrip.{read-written, written-least}
use Rattle.ber_real_sizes.specs.Sizes as sizes
use Rattle.ber_real_sizes.proofs.Spelled as spelled-sizes
use Rattle.glow_rows.specs.Entry.{Rows}
use Rattle.glow_trees.specs.Rows.{items_in}
use Rattle.glow_trees.specs.Trees.{Trees, flat, trees_of}
use Rattle.glow_trees.specs.Legal.{is_real, legal_root}
use Rattle.glow_trees.specs.Written.{message_octets, form_octets, written_real}
use Rattle.glow_member_sizes.specs.Spelling.{least_real}
use Rattle.glow_sizes.specs.Accepted.{octets_of}
use Rattle.trees_read_back.proofs.Leaves.{Spells}
use Rattle.trees_read_back.proofs.ReadBack.{reads-back, same-tree, written-spells}
use Rattle.trees_round_trip.proofs.Octets.{Octets, rows-octets, message-below}
use Rattle.trees_round_trip.proofs.Reals.{real-form, least-spells, least-below, reals-least}
use Rattle.trees_round_trip.proofs.Writing.{made, told, fitting}
use Rattle.trees_round_trip.specs.Claims.{written}
use Rattle.encodings.specs.Values.{Values, end, plain, nest}
use Rattle.encodings.specs.Encodes.{Encodes}
use Rattle.encodings.specs.Writing.{PlainReals}
use Rattle.encodings.proofs.Unique.{one-spelling}
use Rattle.encodings.proofs.Valued.{message-spelt}
use Rattle.encodings.proofs.Exactly.{sound}
use Rattle.encodings.proofs.Shortest.{All, contents-below, Enough, message-low}

-- ---- it is an encoding

-- the message of a legal tree, in a spelling of reals
spelled-encodes : (real : ℕ → List ℕ) → Spells real → ((w : ℕ) → is_real w ≡ true → Below 256 (real w)) → (root : ℕ) (t : Trees) → legal_root root t ≡ true
    → Octets (flat 0 0 t) → length (message_octets real root t) ≤ 16384 → Encodes (message_octets real root t) root t
spelled-encodes real spells below root t right o few =
    let r = reads-back real spells root t right few in
    sound (message_octets real root t) (message-below real below root t right o few) root t
    (record { entries = r.0; walks = r.1.0; makes = same-tree real spells root t right few r.0 r.1.1 })

written_below : (w : ℕ) → is_real w ≡ true → Below 256 (written_real w)
unfolding written_real
written_below w e =
    let f = real-form w e in
    let s = spelled-sizes.written-spells (Ieee.of_bits binary64 w) f.0 (of_bits-fits binary64 w) f.1 in
    subst (λ (x : Form). Below 256 (form_octets x)) (sym f.1)
    (subst (λ (x : Form). Below 256 (sizes.form_octets x)) f.1 s.1.1)

-- The message that the writer puts for a legal tree encodes it.
pub message-encodes : (root : ℕ) (t : Trees) → legal_root root t ≡ true → Octets (flat 0 0 t) → length (message_octets written_real root t) ≤ 16384
    → Encodes (message_octets written_real root t) root t
message-encodes = spelled-encodes written_real written-spells written_below

pub least-encodes : (root : ℕ) (t : Trees) → legal_root root t ≡ true → Octets (flat 0 0 t) → length (message_octets least_real root t) ≤ 16384
    → Encodes (message_octets least_real root t) root t
least-encodes = spelled-encodes least_real least-spells least-below

-- What `write` put is an encoding of the tree whose entries the rows hold.
pub written-encodes : (s : List ℕ) → Below 256 s → (rows : Rows) (count root : ℕ) (out : List ℕ) (n : ℕ) (out' : List ℕ)
    → written s rows count root out ≡ outcome (Some n) out'
    → (t : Trees) × ((take n out' ≡ message_octets written_real root t) × (Encodes (take n out') root t × (flat 0 0 t ≡ items_in s rows count)))
unfolding octets_of
written-encodes s b rows count root out n out' h =
    let es = items_in s rows count in
    let bs = octets_of written_real root es in
    let t = (trees_of root es).trees in
    let d = told root (length rows) count es out (Some n) out' h in
    let f = fitting written_real root (length rows) count es d.0 in
    let w = made root es f.whole in
    let q : take n out' ≡ bs = ap (take n) d.1.1.1 ∙ take_at bs (drop n out) n (sym d.1.0) in (
      t,
      (
        q,
        (
          subst (λ (l : List ℕ). Encodes l root t) (sym q)
              (message-encodes root t w.legals (subst Octets (sym w.entries) (rows-octets s b rows count)) f.few),
          w.entries,
        ),
      ),
    )

-- ---- its reals have scale 0 and an odd mantissa

-- what stands in the first container
abbrev inside_of : Values → Values
inside_of end = end
inside_of (plain class n content rest) = end
inside_of (nest form class n inside rest) = inside

-- However the writer's message is taken as an encoding, its reals have scale 0 and an odd mantissa.
pub written-plainly : (root : ℕ) (t : Trees) → legal_root root t ≡ true → length (message_octets written_real root t) ≤ 16384
    → (e : Encodes (message_octets written_real root t) root t) → PlainReals e.items
written-plainly root t right few e =
    let m = message-spelt root t right few in
    subst PlainReals (ap (λ (v : Values). inside_of (inside_of v)) (sym (one-spelling e.spelled m.0))) m.1

-- ---- none is shorter

both-all : (P Q R : ℕ → ℕ → List ℕ → Type 0) → ((class n : ℕ) (content : List ℕ) → P class n content → Q class n content → R class n content)
    → (v : Values) → All P v → All Q v → All R v
both-all P Q R f end a b = tt
both-all P Q R f (plain class n content rest) a b = (f class n content a.0 b.0, both-all P Q R f rest a.1 b.1)
both-all P Q R f (nest form class n inside rest) a b = (both-all P Q R f inside a.0 b.0, both-all P Q R f rest a.1 b.1)

plain-all : (v : Values) → PlainReals v → All (λ class n content. class ≡ 0 → n ≡ 9 → Plain content) v
plain-all end a = tt
plain-all (plain class n content rest) a = (a.0, plain-all rest a.1)
plain-all (nest form class n inside rest) a = (plain-all inside a.0, plain-all rest a.1)

-- a real with scale 0 and an odd mantissa has no fewer octets than are written
written-enough : (content : List ℕ) (x : Float) → Below 256 content → Plain content → Means content x
    → length (written_real (Ieee.to_bits binary64 x)) ≤ length content
unfolding written_real
written-enough content x b p m =
    let e = (exactly content b x).1 m in
    let r = read-written content x b e in
    let back : Ieee.of_bits binary64 (Ieee.to_bits binary64 x) ≡ x = of_bits-to_bits binary64 x r.0 in
    let q : form_octets (form (Ieee.of_bits binary64 (Ieee.to_bits binary64 x))) ≡ r.1.0 = ap (λ (y : Float). form_octets (form y)) back
    ∙ ap form_octets r.1.1.0 in
    let l = written-least content r.1.0 x b p e r.1.1.0 in
    let z = ap length q in
    omega arith

module _ (s : List ℕ) (below : Below 256 s) (root : ℕ) (t : Trees) (e : Encodes s root t) where
  contents-all : All (λ class n content. Below 256 content) e.items
  contents-all = (contents-below e.spelled below).0.0

  -- Of a tree's encodings whose reals have scale 0 and an odd mantissa, as the writer's have, none is shorter than what the writer puts.
  pub written-shortest : PlainReals e.items → length (message_octets written_real root t) ≤ 16384 → length (message_octets written_real root t) ≤ length s
  written-shortest p few =
      ⊎_elim (λ (h : 16384 < length s). omega arith)
      (λ (h : length s ≤ 16384).
      message-low written_real s below h root t e
      (both-all (λ class n content. Below 256 content) (λ class n content. class ≡ 0 → n ≡ 9 → Plain content) (Enough written_real)
      (λ class n content b q. (b, λ c k x m. written-enough content x b (q c k) m)) e.items contents-all (plain-all e.items p)))
      (lt-or-le 16384 (length s))

  -- Of all encodings of a tree none is shorter than its message with reals in the fewest octets.
  pub least-shortest : length (message_octets least_real root t) ≤ 16384 → length (message_octets least_real root t) ≤ length s
  least-shortest few =
      ⊎_elim (λ (h : 16384 < length s). omega arith)
      (λ (h : length s ≤ 16384).
      message-low least_real s below h root t e
      (both-all (λ class n content. Below 256 content) (λ class n content. Unit {0}) (Enough least_real)
      (λ class n content b q. (b, λ c k x m. reals-least content x b ((exactly content b x).1 m))) e.items contents-all (any-all e.items)))
      (lt-or-le 16384 (length s))
    where
      any-all : (v : Values) → All (λ class n content. Unit {0}) v
      any-all end = tt
      any-all (plain class n content rest) = (tt, any-all rest)
      any-all (nest form class n inside rest) = (any-all inside, any-all rest)
