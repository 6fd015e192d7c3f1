-- Relative identifiers: what is written is read back, and only what is written of some numbers is read as them.
use Rattle.std.specs.Prelude.{Some, None}
use Prim.Native.Nat.{ℕ, zero, suc, ◌+◌, ◌-◌, ◌*◌, ◌/◌, ◌%◌, ◌^◌, ◌≤◌, ◌<◌}
use mathlib.Core.Path.{◌≡◌, refl, sym, ap, ◌∙◌}
use mathlib.Core.List.{List, [], ◌∷◌, ◌++◌, append_assoc}
use mathlib.Core.Bool.{Bool, true, false}
use mathlib.Core.Logic.{⊎_elim}
use native.Mathlib.Omega.{arith}
use native.Mathlib.Nat.{mul-le-mul_right}
use lib.ListN.{length, take, drop, get_or, length-append, take-append-drop}
use lib.Seq.{take-append-add, drop-drop, take-add, take_at, take-take, get_or-take, get_or-drop}
use Rattle.ber_integers.proofs.Laws.{length_part}
use lib.Arith.{digits_div, digits_mod}
use borrow.Author.Tests.{le-leb, lt-leb, lt-ltb, le-ltb}
use Rattle.ber_integers.specs.Digits.{Put, horner, digits, count, count_by, outcome}
use Rattle.ber_integers.proofs.Radix.{lt-or-le, none_or_some, Below, length_digits, digits-below, digits-horner, natural-lt, horner-split}
use Rattle.ber_integers.proofs.Radix.{count-holds, count-least, power_le}
use Rattle.ber_integers.proofs.Signs.{below-take, below-drop}
use Rattle.ber_integers.proofs.Output.{put-fits, put_next, put-there, put-length}
use Rattle.ber_tags.specs.Write.{marked, septets}
use Rattle.ber_tags.proofs.Laws.{length_marked}
use Rattle.ber_tags.proofs.Septets.{length-septets, septets-value}
use Rattle.ber_tags.proofs.Written.{drop_past, not-80}
use Rattle.ber_identifiers.specs.declared.Arc.{Arc}
use Rattle.ber_identifiers.specs.declared.Arc.TheVariants.{Number, Range as Over, Refused as NoArc}
use Rattle.ber_identifiers.specs.declared.Oid.TheVariants.{Numbers}
use Rattle.ber_identifiers.specs.Identifier.{arc_is, arc_from, arc_at, Arcs, bad, over, numbers, push, pass, and_then, arcs_from, judged, arcs}
use Rattle.ber_identifiers.specs.Identifier.{oid_at, oid_octets, in_range, put_oid}
use Rattle.ber_identifiers.proofs.Laws.{arc-over, arc-is, arc-past, arc-none, arc-80, arc-from, arcs-done, arcs-number, oid-within, put-range, put-oid}

-- groups of seven bits are read as their number
from-read : (ds : List ℕ) (d : ℕ) (rest : List ℕ) (acc p : ℕ) → d < 128 → Below 128 ds
    → arc_from acc p (marked ds ++ (d ∷ rest)) ≡ arc_is (horner 128 acc ds * 128 + d) (p + length ds + 1)
unfolding arc_from horner
from-read [] d rest acc p h b = let e : p + 0 + 1 ≡ p + 1 = omega arith in rw e (simp (lt-ltb _ _ h))
from-read (x ∷ ds) d rest acc p h b =
    let x0 : x < 128 = b.0 in
    let l : 128 ≤ 128 + x = omega arith in
    let m : (128 + x) % 128 ≡ x = omega arith in
    let i : p + 1 + length ds + 1 ≡ p + suc (length ds) + 1 = omega arith in
    let r = from-read ds d rest (acc * 128 + x) (p + 1) h b.1 in
    simp (le-ltb _ _ l, m) (r ∙ ap (arc_is (horner 128 (acc * 128 + x) ds * 128 + d)) i)

septets-nonempty : (n : ℕ) → 0 < length (septets n)
septets-nonempty n = let e = length-septets n in omega arith

module _ (s : List ℕ) (p end n : ℕ) (rest : List ℕ) (there : drop p s ≡ septets n ++ rest) (small : n ≤ 2147483647)
    (room : p + length (septets n) ≤ end) (within : end ≤ length s) where
  pub arc-read : arc_at s p end ≡ Number n (p + length (septets n))
  unfolding septets
  arc-read =
      let ds = digits 128 (count 128 (n / 128)) (n / 128) in
      let k = septets-nonempty n in
      let l : length ds ≡ count 128 (n / 128) = length_digits 128 (omega arith) (count 128 (n / 128)) (n / 128) in
      let z : length (septets n) ≡ count 128 (n / 128) + 1 = length-septets n in
      let e : end - p ≡ length (septets n) + (end - p - length (septets n)) = omega arith in
      let t : take (end - p) (drop p s) ≡ septets n ++ take (end - p - length (septets n)) rest =
      ap (take (end - p)) there ∙ ap (λ (i : ℕ). take i (septets n ++ rest)) e ∙ take-append-add (septets n) rest (end - p - length (septets n)) in
      let u = t ∙ append_assoc (marked ds) ((n % 128) ∷ []) (take (end - p - length (septets n)) rest) in
      let r = from-read ds (n % 128) (take (end - p - length (septets n)) rest) 0 p (omega arith)
      (digits-below 128 (omega arith) (count 128 (n / 128)) (n / 128)) in
      let i : p + length ds + 1 ≡ p + length (septets n) = omega arith in
      sym (arc-from s p end within (omega arith) (not-80 s p n rest there))
      ∙ ap (arc_from 0 p) u ∙ r
      ∙ ap (λ (x : ℕ). arc_is x (p + length ds + 1)) (septets-value n)
      ∙ ap (arc_is n) i
      ∙ sym (arc-is n (p + length (septets n)) small)

range-head : (n : ℕ) (ns : List ℕ) → in_range (n ∷ ns) ≡ true → (n ≤ 2147483647) × (in_range ns ≡ true)
range-head n ns e =
    ⊎_elim
    (λ (h : 2147483647 < n). let f : false ≡ true = simp (lt-leb _ _ h) at e in let z : ◌≡◌ {A = ℕ} 0 1 = cc in absurd (omega arith))
    (λ (h : n ≤ 2147483647). (h, simp (le-leb _ _ h) at e))
    (lt-or-le 2147483647 n)

-- the numbers are read from their octets
pub arcs-read : (ns : List ℕ) → in_range ns ≡ true → (s : List ℕ) (p end f : ℕ) (rest : List ℕ) → drop p s ≡ oid_octets ns ++ rest
    → end ≡ p + length (oid_octets ns) → end ≤ length s → end - p ≤ f → arcs_from s f p end ≡ numbers ns
unfolding oid_octets
arcs-read [] r s p end f rest t e w k = arcs-done s end p f (omega arith)
arcs-read (n ∷ ns) r s p end f rest t e w k =
    let h = range-head n ns r in
    let a = length-append (septets n) (oid_octets ns) in
    let l = septets-nonempty n in
    let t2 : drop p s ≡ septets n ++ (oid_octets ns ++ rest) = t ∙ append_assoc (septets n) (oid_octets ns) rest in
    let one = arc-read s p end n (oid_octets ns ++ rest) t2 h.0 (omega arith) w in
    let q = arcs-number s end p f n (p + length (septets n)) (omega arith) k one (omega arith) in
    q.1.1 ∙ ap (push n) (arcs-read ns h.1 s (p + length (septets n)) end q.0 rest (drop_past s p (septets n) (oid_octets ns ++ rest) t2)
    (omega arith) w q.1.0)

-- Numbers written into an output are read from it, with nothing left.
pub written_read : (out : List ℕ) (at : ℕ) (ns : List ℕ) (e : ℕ) (o : List ℕ) → put_oid out at ns ≡ outcome (Some e) o
    → (arcs o at (e - at) ≡ numbers ns) × (oid_at o at (e - at) ≡ Numbers (length ns))
written_read out at ns e o d = go (in_range ns) refl
  where
    go : (b : Bool) → in_range ns ≡ b → (arcs o at (e - at) ≡ numbers ns) × (oid_at o at (e - at) ≡ Numbers (length ns))
    go false r =
        let c : None ≡ Some e = ap (λ (p : Put). p.answer) (sym (put-range out at ns r) ∙ d) in
        let z : ◌≡◌ {A = ℕ} 0 1 = cc in absurd (omega arith)
    go true r =
        let bs = oid_octets ns in
        let dn = sym (put-oid out at ns r) ∙ d in
        let f = put-fits out at bs e o dn in
        let l = put-length out at bs e o dn in
        let x = put_next out at bs e o dn in
        let k : e - at ≡ length bs = omega arith in
        let t : drop at o ≡ bs ++ drop (length bs) (drop at o) = sym (take-append-drop (length bs) (drop at o))
        ∙ ap (λ (y : List ℕ). y ++ drop (length bs) (drop at o)) (put-there out at bs e o dn) in
        let a : arcs o at (length bs) ≡ numbers ns =
        arcs-read ns r o at (at + length bs) (length bs) (drop (length bs) (drop at o)) t refl (omega arith) (omega arith) in
        rw k (a, sym (oid-within o at (length bs) (omega arith)) ∙ ap judged a)

-- digits without a leading 0 are the fewest
pub digits-fewest : (x : ℕ) (xs : List ℕ) → Below 128 (x ∷ xs) → 0 < x → count 128 (horner 128 0 (x ∷ xs)) ≡ suc (length xs)
unfolding horner
digits-fewest x xs b h =
    let m = horner 128 0 (x ∷ xs) in
    let lo : count 128 m ≤ suc (length xs) = count-least 128 (omega arith) m m (suc (length xs)) (omega arith) (natural-lt 128 (x ∷ xs) b) in
    let z : 0 * 128 + x ≡ x = omega arith in
    let v : m ≡ x * 128 ^ length xs + horner 128 0 xs = rw z (horner-split 128 x xs) in
    let w : 1 * 128 ^ length xs ≤ x * 128 ^ length xs = mul-le-mul_right (128 ^ length xs) h in
    let hi : length xs < count 128 m =
    ⊎_elim
    (λ (k : length xs < count 128 m). k)
    (λ (k : count 128 m ≤ length xs).
    let c : m < 128 ^ length xs = power_le 128 {n = count 128 m} {k = length xs} (omega arith) k (count-holds 128 (omega arith) m m (omega arith)) in
    absurd (omega arith))
    (lt-or-le (length xs) (count 128 m)) in
    omega arith

no-digits : digits 128 (count 128 (horner 128 0 [])) (horner 128 0 []) ≡ []
unfolding horner digits count_by
no-digits = refl

pub septets-unique : (ds : List ℕ) (d : ℕ) → Below 128 ds → d < 128 → (get_or (marked ds ++ (d ∷ [])) 0 0 ≡ 128 → ⊥)
    → septets (horner 128 0 ds * 128 + d) ≡ marked ds ++ (d ∷ [])
unfolding septets
septets-unique ds d b h first =
    let m = horner 128 0 ds * 128 + d in
    let q : m / 128 ≡ horner 128 0 ds = digits_div (horner 128 0 ds) h in
    let r : m % 128 ≡ d = digits_mod (horner 128 0 ds) h in
    rw (q, r, go ds b first)
  where
    go : (ds : List ℕ) → Below 128 ds → (get_or (marked ds ++ (d ∷ [])) 0 0 ≡ 128 → ⊥) → digits 128 (count 128 (horner 128 0 ds)) (horner 128 0 ds) ≡ ds
    go [] b f = no-digits
    go (x ∷ xs) b f =
        let p : 0 < x = ⊎_elim (λ (e : x ≡ 0). absurd (f (omega arith))) (λ (e : 0 < x). e) (none_or_some x) in
        rw (digits-fewest x xs b p) (digits-horner 128 (omega arith) (x ∷ xs) b)

-- what was read as a number: its groups of seven bits, and what follows
record Groups (acc p : ℕ) (bs : List ℕ) (n next : ℕ) : Type 0 where
  ds : List ℕ
  last : ℕ
  rest : List ℕ
  octets : bs ≡ marked ds ++ (last ∷ rest)
  value : n ≡ horner 128 acc ds * 128 + last
  after : next ≡ p + length ds + 1
  below : Below 128 ds
  ends : last < 128

no-arc : {n next : ℕ} {r : Arc} → r ≡ Number n next → NoArc ≡ r → ⊥
no-arc e f = let z : ◌≡◌ {A = ℕ} 0 1 = cc in omega arith

arc-inv : (m q n next : ℕ) → arc_is m q ≡ Number n next → (m ≡ n) × ((q ≡ next) × (m ≤ 2147483647))
arc-inv m q n next e =
    ⊎_elim
    (λ (h : 2147483647 < m). let f : Over q ≡ Number n next = arc-over m q h ∙ e in let z : ◌≡◌ {A = ℕ} 0 1 = cc in absurd (omega arith))
    (λ (h : m ≤ 2147483647). let f : Number m q ≡ Number n next = arc-is m q h ∙ e in (cc, (cc, h)))
    (lt-or-le 2147483647 m)

from_nothing : (acc p : ℕ) → NoArc ≡ arc_from acc p []
unfolding arc_from
from_nothing acc p = refl

from_last : (acc p b : ℕ) (bs : List ℕ) → b < 128 → arc_from acc p (b ∷ bs) ≡ arc_is (acc * 128 + b) (p + 1)
unfolding arc_from
from_last acc p b bs h = simp (lt-ltb _ _ h)

from_more : (acc p b : ℕ) (bs : List ℕ) → 128 ≤ b → arc_from acc p (b ∷ bs) ≡ arc_from (acc * 128 + b % 128) (p + 1) bs
unfolding arc_from
from_more acc p b bs h = simp (le-ltb _ _ h)

from-inv : (bs : List ℕ) (acc p n next : ℕ) → Below 256 bs → arc_from acc p bs ≡ Number n next → (n ≤ 2147483647) × Groups acc p bs n next
unfolding horner
from-inv [] acc p n next y e = absurd (no-arc e (from_nothing acc p))
from-inv (b ∷ bs) acc p n next y e =
    ⊎_elim
    (λ (h : b < 128).
    let r = arc-inv (acc * 128 + b) (p + 1) n next (sym (from_last acc p b bs h) ∙ e) in
    let r0 = r.0 in
    let r1 = r.1.0 in
    let r2 = r.1.1 in
    (omega arith, record { ds = []; last = b; rest = bs; octets = refl; value = sym r0; after = omega arith; below = tt; ends = h }))
    (λ (h : 128 ≤ b).
    let r = from-inv bs (acc * 128 + b % 128) (p + 1) n next y.1 (sym (from_more acc p b bs h) ∙ e) in
    let g = r.1 in
    let y0 : b < 256 = y.0 in
    let x : 128 + b % 128 ≡ b = omega arith in
    let a = g.after in (
      r.0,
      record {
        ds = (b % 128) ∷ g.ds;
        last = g.last;
        rest = g.rest;
        octets = ap (λ (l : List ℕ). b ∷ l) g.octets ∙ ap (λ (i : ℕ). i ∷ (marked g.ds ++ (g.last ∷ g.rest))) (sym x);
        value = g.value;
        after = omega arith;
        below = (omega arith, g.below);
        ends = g.ends;
      },
    ))
    (lt-or-le b 128)

-- a number that was read takes just the octets that are written of it
pub arc-written : (s : List ℕ) (p end n next : ℕ) → Below 256 s → arc_at s p end ≡ Number n next
    → (n ≤ 2147483647) × ((p < next) × ((next ≤ end) × (take (next - p) (drop p s) ≡ septets n)))
arc-written s p end n next y e =
    ⊎_elim
    (λ (w : length s < end). absurd (no-arc e (arc-past s p end w)))
    (λ (w : end ≤ length s).
    ⊎_elim
    (λ (k : p < end).
    let f : get_or s p 0 ≡ 128 → ⊥ = λ q. no-arc e (arc-80 s p end w k q) in
    let part = take (end - p) (drop p s) in
    let r = from-inv part 0 p n next (below-take 256 (end - p) (drop p s) (below-drop 256 p s y)) (arc-from s p end w k f ∙ e) in
    let g = r.1 in
    let ga = g.after in
    let lm = length_marked g.ds in
    let lp : length part ≡ end - p = length_part s p (end - p) (omega arith) in
    let oc : part ≡ (marked g.ds ++ (g.last ∷ [])) ++ g.rest = g.octets ∙ sym (append_assoc (marked g.ds) (g.last ∷ []) g.rest) in
    let lf : length (marked g.ds ++ (g.last ∷ [])) ≡ next - p = length-append (marked g.ds) (g.last ∷ []) ∙ omega arith in
    let ll : length part ≡ length (marked g.ds ++ (g.last ∷ [])) + length g.rest = ap length oc
    ∙ length-append (marked g.ds ++ (g.last ∷ [])) g.rest in
    let tk : take (next - p) part ≡ marked g.ds ++ (g.last ∷ []) = ap (take (next - p)) oc
    ∙ take_at (marked g.ds ++ (g.last ∷ [])) g.rest (next - p) lf in
    let tt2 : take (next - p) part ≡ take (next - p) (drop p s) = take-take (next - p) (end - p) (drop p s) (omega arith) in
    let hd : get_or (marked g.ds ++ (g.last ∷ [])) 0 0 ≡ get_or s p 0 =
    ap (λ (l : List ℕ). get_or l 0 0) (sym tk) ∙ get_or-take (next - p) part 0 0 (omega arith) ∙ get_or-take (end - p) (drop p s) 0 0 (omega arith)
    ∙ get_or-drop p s 0 0 ∙ ap (λ (i : ℕ). get_or s i 0) (omega arith) in
    let u = septets-unique g.ds g.last g.below g.ends (λ q. f (sym hd ∙ q)) in
    (r.0, (omega arith, (omega arith, sym tt2 ∙ tk ∙ sym u ∙ ap septets (sym g.value)))))
    (λ (k : end ≤ p). absurd (no-arc e (arc-none s p end w k)))
    (lt-or-le p end))
    (lt-or-le (length s) end)

arcs-step : (s : List ℕ) (f p end : ℕ) → p < end → arcs_from s (suc f) p end ≡ and_then (arc_at s p end) (λ next. arcs_from s f next end)
unfolding arcs_from
arcs-step s f p end h = simp (lt-ltb _ _ h)

push-inv : (n : ℕ) (a : Arcs) (ns : List ℕ) → push n a ≡ numbers ns → (ms : List ℕ) × ((a ≡ numbers ms) × (n ∷ ms ≡ ns))
push-inv n bad ns e = let z : ◌≡◌ {A = ℕ} 0 1 = cc in absurd (omega arith)
push-inv n over ns e = let z : ◌≡◌ {A = ℕ} 0 1 = cc in absurd (omega arith)
push-inv n (numbers ms) ns e = (ms, (refl, cc))

pass-inv : (a : Arcs) (ns : List ℕ) → pass a ≡ numbers ns → ⊥
pass-inv bad ns e = let z : ◌≡◌ {A = ℕ} 0 1 = cc in omega arith
pass-inv over ns e = let z : ◌≡◌ {A = ℕ} 0 1 = cc in omega arith
pass-inv (numbers ms) ns e = let z : ◌≡◌ {A = ℕ} 0 1 = cc in omega arith

finished : (s : List ℕ) (p end : ℕ) (ns : List ℕ) (f : ℕ) → end ≤ p → arcs_from s f p end ≡ numbers ns → (oid_octets ns ≡ take (end - p) (drop p s))
    × (in_range ns ≡ true)
unfolding oid_octets
finished s p end ns f l e =
    let q : numbers [] ≡ numbers ns = sym (arcs-done s end p f l) ∙ e in
    let n : [] ≡ ns = cc in
    let z : end - p ≡ 0 = omega arith in
    rw (sym n, z) (refl, refl)

arcs-written : (f : ℕ) (s : List ℕ) (p end : ℕ) (ns : List ℕ) → Below 256 s → end ≤ length s → p ≤ end → end - p ≤ f → arcs_from s f p end ≡ numbers ns
    → (oid_octets ns ≡ take (end - p) (drop p s)) × (in_range ns ≡ true)
unfolding oid_octets
arcs-written zero s p end ns y w h k e = finished s p end ns zero (omega arith) e
arcs-written (suc f) s p end ns y w h k e =
    ⊎_elim
    (λ (l : p < end). more (arc_at s p end) refl l (sym (arcs-step s f p end l) ∙ e) (λ q ms a b. arcs-written f s q end ms y w a b))
    (λ (l : end ≤ p). finished s p end ns (suc f) l e)
    (lt-or-le p end)
  where
    more : (r : Arc) → arc_at s p end ≡ r → p < end → and_then r (λ next. arcs_from s f next end) ≡ numbers ns
        → ((q : ℕ) (ms : List ℕ) → q ≤ end → end - q ≤ f → arcs_from s f q end ≡ numbers ms → (oid_octets ms ≡ take (end - q) (drop q s)) × (in_range ms ≡ true))
        → (oid_octets ns ≡ take (end - p) (drop p s)) × (in_range ns ≡ true)
    more NoArc a l g rec = let z : ◌≡◌ {A = ℕ} 0 1 = cc in absurd (omega arith)
    more (Over next) a l g rec = absurd (pass-inv (arcs_from s f next end) ns g)
    more (Number n next) a l g rec =
        let i = push-inv n (arcs_from s f next end) ns g in
        let v = arc-written s p end n next y a in
        let v0 = v.1.0 in
        let v1 = v.1.1.0 in
        let r = rec next i.0 v1 (omega arith) i.1.0 in
        let d : p + (next - p) ≡ next = omega arith in
        let m : (next - p) + (end - next) ≡ end - p = omega arith in
        let j : take (end - p) (drop p s) ≡ take (next - p) (drop p s) ++ take (end - next) (drop next s) =
        ap (λ (x : ℕ). take x (drop p s)) (sym m) ∙ take-add (next - p) (end - next) (drop p s)
        ∙ ap (λ (x : List ℕ). take (next - p) (drop p s) ++ take (end - next) x) (drop-drop (next - p) p s ∙ ap (λ (x : ℕ). drop x s) d) in
        rw (sym i.1.1) (rw (r.0, sym v.1.1.1) (sym j), simp (le-leb _ _ v.0) r.1)

-- Only the octets that are written of some numbers are read as them: there are none shorter, and written again they are the same.
pub read-written : (s : List ℕ) (at n : ℕ) (ns : List ℕ) → Below 256 s → at + n ≤ length s → arcs s at n ≡ numbers ns
    → (oid_octets ns ≡ take n (drop at s)) × (in_range ns ≡ true)
read-written s at n ns y w e =
    let d : at + n - at ≡ n = omega arith in
    rw d at (arcs-written n s at (at + n) ns y w (omega arith) (omega arith) e)
