-- Values: what is written is read back, with nothing left; what is read can be written, and is then read as the same.
use Rattle.std.specs.Prelude.{ℤ, Float, Option, Some, None}
use Prim.Native.Nat.{ℕ, ◌+◌, ◌-◌, ◌≤◌, ◌<◌}
use mathlib.Core.Path.{◌≡◌, refl, sym, ap, subst, subst⁻¹, ◌∙◌}
use mathlib.Core.List.{List, [], ◌∷◌, ◌++◌, append_assoc}
use mathlib.Core.Bool.{Bool, true, false}
use mathlib.Core.Logic.{◌⊎◌, inl, inr, ⊎_elim}
use native.Mathlib.Omega.{arith}
use borrow.Author.Tests.{le-leb, lt-leb, eqb-true, eqb-false}
use lib.ListN.{length, take, drop, length-append, take-append-drop}
use lib.Seq.{take-append_seam}
use lib.Dec.{leb, eqb}
use Rattle.ber_integers.specs.Digits.{Put, put, unchanged, outcome}
use Rattle.ber_integers.specs.Integer.{integer, integer_at, shortest}
use Rattle.ber_integers.proofs.Laws.{at_part, length_part}
use Rattle.ber_integers.proofs.Radix.{lt-or-le, Below}
use Rattle.ber_integers.proofs.RoundTrip.{written_read, read-written, read_fits}
use Rattle.ber_integers.proofs.Signs.{below-take, below-drop}
use Rattle.ber_integers.proofs.Output.{put-fits, put_next, put-length, put-there}
use Rattle.ber_reals.specs.Real.{real, real_at}
use Rattle.ber_reals.specs.Write.{Form, unwritten, octets, form}
use Rattle.ber_reals.proofs.RoundTrip as reals
use Rattle.ber_tags.specs.declared.Length.TheVariants.{Definite, Indefinite}
use Rattle.ber_tags.specs.declared.Length.{Length}
use Rattle.ber_tags.specs.declared.Head.{Head}
use Rattle.ber_tags.specs.declared.Head.TheVariants.{Tag, Refused as NoTag}
use Rattle.ber_tags.proofs.Shortest.{accepted}
use Rattle.ber_tags.specs.Tag.{head_at}
use Rattle.ber_tags.specs.Write.{tag_octets, length_octets}
use Rattle.ber_tags.proofs.Written.{head_read, drop_past}
use Rattle.ber_values.specs.declared.Value.{Value}
use Rattle.ber_values.specs.declared.Value.TheVariants.{Absent, Int, Real, Text, Bool as Truth, Octets}
use Rattle.ber_values.specs.declared.Answer.TheVariants.{Found, Other, Refused}
use Rattle.ber_values.specs.Value.{boolean, bool_at, on_flag, on_number, on_real, content_at, value_at}
use Rattle.ber_values.specs.Compared.{Held, moved, octets_of}
use Rattle.ber_values.specs.Write.{bool_octet, part, content_octets, kind_of, primitive, put_primitive, put_value}
use Rattle.ber_values.proofs.Laws.{value-by, value-class, value-constructed, value-primitive, Listed, content-missing, content-other}
use Rattle.ber_values.proofs.Laws.{content-bool, content-int, content-octets, content-real, content-text, text-long, text_out, text_in}
use Rattle.ber_values.proofs.Shorts.{int-short, real-short}

-- A tag with its content that was put into an output: the head is read, and the content stands behind it.
record There (o : List ℕ) (at kind : ℕ) (bs : List ℕ) (e bound : ℕ) : Type 0 where
  start : ℕ
  ends : start + length bs ≡ e
  within : e ≤ length o
  content : take (length bs) (drop start o) ≡ bs
  read : content_at o at kind start (length bs) ≡ value_at o at bound

there : (out : List ℕ) (at kind : ℕ) (bs : List ℕ) (e : ℕ) (o : List ℕ) (bound : ℕ) → kind < 31 → length bs ≤ 4294967295 → e ≤ bound
    → put out at (primitive kind bs) ≡ outcome (Some e) o → There o at kind bs e bound
unfolding primitive
there out at kind bs e o bound one few inside done =
    let tag = tag_octets 0 false kind in
    let size = length_octets (length bs) in
    let all = tag ++ (size ++ bs) in
    let f = put-fits out at all e o done in
    let l = put-length out at all e o done in
    let n = put_next out at all e o done in
    let l1 : length all ≡ length tag + length (size ++ bs) = length-append tag (size ++ bs) in
    let l2 : length (size ++ bs) ≡ length size + length bs = length-append size bs in
    let rest = drop (length all) (drop at o) in
    let d : drop at o ≡ all ++ rest = sym (take-append-drop (length all) (drop at o)) ∙ ap (λ (x : List ℕ). x ++ rest) (put-there out at all e o done) in
    let d2 : drop at o ≡ tag ++ (size ++ (bs ++ rest)) = d ∙ append_assoc tag (size ++ bs) rest ∙ ap (λ (x : List ℕ). tag ++ x) (append_assoc size bs rest) in
    let p1 : drop (at + length tag) o ≡ size ++ (bs ++ rest) = drop_past o at tag (size ++ (bs ++ rest)) d2 in
    let p2 : drop (at + length tag + length size) o ≡ bs ++ rest = drop_past o (at + length tag) size (bs ++ rest) p1 in
    let h = head_read o at bound 0 false kind (length bs) (bs ++ rest) d2 (omega arith) few (omega arith) in
    record {
      start = at + length tag + length size;
      ends = omega arith;
      within = omega arith;
      content = ap (take (length bs)) p2 ∙ take-append_seam bs rest;
      read = value-primitive o at bound h refl refl;
    }

bool-part : (s : List ℕ) (at n : ℕ) → at + n ≤ length s → bool_at s at n ≡ boolean (take n (drop at s))
unfolding bool_at
bool-part s at n h = simp (le-leb _ _ h)

real-part : (s : List ℕ) (at n : ℕ) → at + n ≤ length s → real_at s at n ≡ real (take n (drop at s))
unfolding real_at
real-part s at n h = simp (le-leb _ _ h)

true-octet : (b : Bool) → boolean (bool_octet b ∷ []) ≡ Some b
unfolding boolean
true-octet true = refl
true-octet false = refl

not_written : {out o : List ℕ} {e : ℕ} → unchanged out ≡ outcome (Some e) o → ⊥
not_written {out} {o} {e} d =
    let c : None ≡ Some e = ap (λ (p : Put). p.answer) d in
    let z : ◌≡◌ {A = ℕ} 0 1 = cc in omega arith

module _ (src out : List ℕ) (at e : ℕ) (o : List ℕ) (bound : ℕ) (inside : e ≤ bound) where
  text : (kind start len : ℕ) → kind < 31 → put_primitive out at kind (part src start len) ≡ outcome (Some e) o
      → (content_at o at kind (e - len) len ≡ value_at o at bound)
      × ((e - len + len ≡ e) × ((e ≤ length o) × (take len (drop (e - len) o) ≡ take len (drop start src))))
  text kind start len one d =
      ⊎_elim
      (λ (h : 4294967295 < len). absurd (not_written (sym (ap (put_primitive out at kind) (text-long src start len h)) ∙ d)))
      (λ (h : len ≤ 4294967295).
      ⊎_elim
      (λ (w : length src < start + len). absurd (not_written (sym (ap (put_primitive out at kind) (text_out src start len h w)) ∙ d)))
      (λ (w : start + len ≤ length src).
      let bs = take len (drop start src) in
      let l : length bs ≡ len = length_part src start len w in
      let t = there out at kind bs e o bound one (omega arith) inside (sym (ap (put_primitive out at kind) (text_in src start len h w)) ∙ d) in
      let en = t.ends in
      let wi = t.within in
      let s : t.start ≡ e - len = omega arith in (
        ap (λ (i : ℕ). content_at o at kind i len) (sym s) ∙ ap (λ (n : ℕ). content_at o at kind t.start n) (sym l) ∙ t.read,
        (
          omega arith,
          (omega arith, ap (λ (i : ℕ). take len (drop i o)) (sym s) ∙ ap (λ (n : ℕ). take n (drop t.start o)) (sym l) ∙ t.content),
        ),
      ))
      (lt-or-le (length src) (start + len)))
      (lt-or-le 4294967295 len)

  -- What is written is read back as the same value, with nothing left.
  pub written-read-value : (v : Value) → Held v → put_value src out at v ≡ outcome (Some e) o
      → (value_at o at bound ≡ Found (moved e v) e) × (octets_of o (moved e v) ≡ octets_of src v)
  written-read-value Absent h d = absurd (not_written d)
  written-read-value (Int z) h d =
      let short = int-short z h (shortest z) refl in
      let t = there out at 2 (shortest z) e o bound (omega arith) (omega arith) inside d in
      let en = t.ends in
      let wi = t.within in
      let i : integer_at o t.start (length (shortest z)) ≡ Some z = sym (at_part o t.start (length (shortest z)) (omega arith))
      ∙ ap integer t.content ∙ written_read z h in
      let k : t.start + length (shortest z) ≤ length o = omega arith in
      (sym (content-int o at 2 t.start (length (shortest z)) refl (le-leb _ _ k) ∙ t.read) ∙ rw (i, en), refl)
  written-read-value (Real x) h d = go (form x) refl d
    where
      go : (f : Form) → form x ≡ f → put_primitive out at 9 f ≡ outcome (Some e) o → (value_at o at bound ≡ Found (Real x) e) × (◌≡◌ {A = List ℕ} [] [])
      go unwritten q g = absurd (not_written g)
      go (octets bs) q g =
          let short = real-short x h bs q in
          let t = there out at 9 bs e o bound (omega arith) (omega arith) inside g in
          let en = t.ends in
          let wi = t.within in
          let k : t.start + length bs ≤ length o = omega arith in
          let i : real_at o t.start (length bs) ≡ Some x = real-part o t.start (length bs) k ∙ ap real t.content ∙ reals.written_read x bs h q in
          (sym (content-real o at 9 t.start (length bs) refl (le-leb _ _ k) ∙ t.read) ∙ rw (i, en), refl)
  written-read-value (Text start len) h d =
      let t = text 12 start len (omega arith) d in
      let en = t.1.0 in
      let wi = t.1.1.0 in
      let k : e - len + len ≤ length o = omega arith in
      (sym (content-text o at 12 (e - len) len refl (le-leb _ _ k) ∙ t.0) ∙ ap (Found (Text (e - len) len)) en, t.1.1.1)
  written-read-value (Truth b) h d =
      let t = there out at 1 (bool_octet b ∷ []) e o bound (omega arith) (omega arith) inside d in
      let en = t.ends in
      let wi = t.within in
      let k : t.start + 1 ≤ length o = omega arith in
      let i : bool_at o t.start 1 ≡ Some b = bool-part o t.start 1 k ∙ ap boolean t.content ∙ true-octet b in
      (sym (content-bool o at 1 t.start 1 refl (le-leb _ _ k) ∙ t.read) ∙ rw (i, en), refl)
  written-read-value (Octets start len) h d =
      let t = text 4 start len (omega arith) d in
      let en = t.1.0 in
      let wi = t.1.1.0 in
      let k : e - len + len ≤ length o = omega arith in
      (sym (content-octets o at 4 (e - len) len refl (le-leb _ _ k) ∙ t.0) ∙ ap (Found (Octets (e - len) len)) en, t.1.1.1)

-- a value that is no real is written in as many content octets as it was read from
abbrev pub Exact : Value → Type 0
Exact (Real x) = ⊥
Exact Absent = Unit {0}
Exact (Int z) = Unit {0}
Exact (Text start len) = Unit {0}
Exact (Truth b) = Unit {0}
Exact (Octets start len) = Unit {0}

-- what is known of content that was read as a value
record Content (s : List ℕ) (v : Value) (kind len : ℕ) : Type 0 where
  kind-is : kind ≡ kind_of v
  held : Held v
  bs : List ℕ
  writes : content_octets s v ≡ octets bs
  same : Exact v → length bs ≡ len

other : {v : Value} {next : ℕ} → Other ≡ Found v next → ⊥
other e = let z : ◌≡◌ {A = ℕ} 0 1 = cc in omega arith

refused : {v : Value} {next n p : ℕ} → Refused n p ≡ Found v next → ⊥
refused e = let z : ◌≡◌ {A = ℕ} 0 1 = cc in omega arith

one-octet : (bs : List ℕ) (b : Bool) → boolean bs ≡ Some b → length bs ≡ 1
unfolding boolean
one-octet [] b e = let z : ◌≡◌ {A = ℕ} 0 1 = cc in absurd (omega arith)
one-octet (x ∷ []) b e = refl
one-octet (x ∷ (y ∷ ys)) b e = let z : ◌≡◌ {A = ℕ} 0 1 = cc in absurd (omega arith)

same_or : (m n : ℕ) → (m ≡ n) ⊎ (m ≡ n → ⊥)
same_or m n = go (eqb m n) refl
  where
    go : (b : Bool) → eqb m n ≡ b → (m ≡ n) ⊎ (m ≡ n → ⊥)
    go true e = inl (eqb-true m n e)
    go false e = inr (eqb-false m n e)

module _ (s : List ℕ) (at start len : ℕ) (bytes : Below 256 s) (within : start + len ≤ length s) (few : len ≤ 4294967295) (v : Value) (next : ℕ) where
  inside : Below 256 (take len (drop start s))
  inside = below-take 256 len (drop start s) (below-drop 256 start s bytes)

  size : length (take len (drop start s)) ≡ len
  size = length_part s start len within

  of-flag : (f : Option Bool) → boolean (take len (drop start s)) ≡ f → on_flag at (start + len) f ≡ Found v next → (next ≡ start + len) × Content s v 1 len
  of-flag None q e = absurd (refused e)
  of-flag (Some b) q e =
      let vi : Truth b ≡ v = cc in
      let l : len ≡ 1 = sym size ∙ one-octet (take len (drop start s)) b q in
      (cc, subst (λ (w : Value). Content s w 1 len) vi (record { kind-is = refl; held = tt; bs = bool_octet b ∷ []; writes = refl; same = λ _. sym l }))

  of_number : (n : Option ℤ) → integer (take len (drop start s)) ≡ n → on_number at (start + len) n ≡ Found v next → (next ≡ start + len) × Content s v 2 len
  of_number None q e = absurd (refused e)
  of_number (Some z) q e =
      let vi : Int z ≡ v = cc in
      let r = read-written (take len (drop start s)) z inside q in (
        cc,
        subst (λ (w : Value). Content s w 2 len) vi
            (record { kind-is = refl; held = read_fits (take len (drop start s)) z inside q; bs = shortest z; writes = refl; same = λ _. ap length r ∙ size }),
      )

  of-real : (x : Option Float) → real (take len (drop start s)) ≡ x → on_real at (start + len) x ≡ Found v next → (next ≡ start + len) × Content s v 9 len
  of-real None q e = absurd (refused e)
  of-real (Some x) q e =
      let vi : Real x ≡ v = cc in
      let r = reals.read-written (take len (drop start s)) x inside q in
      (cc, subst (λ (w : Value). Content s w 9 len) vi (record { kind-is = refl; held = r.0; bs = r.1.0; writes = r.1.1.0; same = λ n. absurd n }))

  of-text : Found (Text start len) (start + len) ≡ Found v next → (next ≡ start + len) × Content s v 12 len
  of-text e =
      let vi : Text start len ≡ v = cc in (
        cc,
        subst (λ (w : Value). Content s w 12 len) vi
            (record { kind-is = refl; held = tt; bs = take len (drop start s); writes = text_in s start len few within; same = λ _. size }),
      )

  of-octets : Found (Octets start len) (start + len) ≡ Found v next → (next ≡ start + len) × Content s v 4 len
  of-octets e =
      let vi : Octets start len ≡ v = cc in (
        cc,
        subst (λ (w : Value). Content s w 4 len) vi
            (record { kind-is = refl; held = tt; bs = take len (drop start s); writes = text_in s start len few within; same = λ _. size }),
      )

  content-inv : (kind : ℕ) → content_at s at kind start len ≡ Found v next → (next ≡ start + len) × Content s v kind len
  content-inv kind e =
      let w : leb (start + len) (length s) ≡ true = le-leb _ _ within in
      ⊎_elim
      (λ (k : kind ≡ 1). subst⁻¹ (λ (i : ℕ). (next ≡ start + len) × Content s v i len) k
      (of-flag (boolean (take len (drop start s))) refl
      (ap (on_flag at (start + len)) (sym (bool-part s start len within)) ∙ content-bool s at kind start len k w ∙ e)))
      (λ (k1 : kind ≡ 1 → ⊥).
      ⊎_elim
      (λ (k : kind ≡ 2). subst⁻¹ (λ (i : ℕ). (next ≡ start + len) × Content s v i len) k
      (of_number (integer (take len (drop start s))) refl
      (ap (on_number at (start + len)) (at_part s start len within) ∙ content-int s at kind start len k w ∙ e)))
      (λ (k2 : kind ≡ 2 → ⊥).
      ⊎_elim
      (λ (k : kind ≡ 4). subst⁻¹ (λ (i : ℕ). (next ≡ start + len) × Content s v i len) k (of-octets (content-octets s at kind start len k w ∙ e)))
      (λ (k4 : kind ≡ 4 → ⊥).
      ⊎_elim
      (λ (k : kind ≡ 9). subst⁻¹ (λ (i : ℕ). (next ≡ start + len) × Content s v i len) k
      (of-real (real (take len (drop start s))) refl
      (ap (on_real at (start + len)) (sym (real-part s start len within)) ∙ content-real s at kind start len k w ∙ e)))
      (λ (k9 : kind ≡ 9 → ⊥).
      ⊎_elim
      (λ (k : kind ≡ 12). subst⁻¹ (λ (i : ℕ). (next ≡ start + len) × Content s v i len) k (of-text (content-text s at kind start len k w ∙ e)))
      (λ (k12 : kind ≡ 12 → ⊥). absurd (other (content-other s at kind start len k1 k2 k4 k9 k12 ∙ e)))
      (same_or kind 12))
      (same_or kind 9))
      (same_or kind 4))
      (same_or kind 2))
      (same_or kind 1)

primitive-length : (kind : ℕ) (bs : List ℕ) → length (primitive kind bs) ≡ length (tag_octets 0 false kind) + (length (length_octets (length bs)) + length bs)
unfolding primitive
primitive-length kind bs =
    length-append (tag_octets 0 false kind) (length_octets (length bs) ++ bs)
    ∙ ap (λ (n : ℕ). length (tag_octets 0 false kind) + n) (length-append (length_octets (length bs)) bs)

-- a value that was found was whole
content-whole : (s : List ℕ) (at kind start len : ℕ) (v : Value) (next : ℕ) → content_at s at kind start len ≡ Found v next → start + len ≤ length s
content-whole s at kind start len v next e =
    ⊎_elim
    (λ (h : length s < start + len).
    let w : leb (start + len) (length s) ≡ false = lt-leb _ _ h in
    let no : Listed s at kind start len → ⊥ = λ l. refused (content-missing s at kind start len l w ∙ e) in
    absurd (other (content-other s at kind start len
    (λ k. no (inl k)) (λ k. no (inr (inl k))) (λ k. no (inr (inr (inl k)))) (λ k. no (inr (inr (inr (inl k))))) (λ k. no (inr (inr (inr (inr k))))) ∙ e)))
    (λ (h : start + len ≤ length s). h)
    (lt-or-le (length s) (start + len))

-- What is known of a value that was read: it can be written, and a value that is no real in no more octets.
pub record Readable (s : List ℕ) (at : ℕ) (v : Value) (next : ℕ) : Type 0 where
  pub held : Held v
  pub bs : List ℕ
  pub writes : content_octets s v ≡ octets bs
  pub shortest-form : Exact v → at + length (primitive (kind_of v) bs) ≤ next

pub read-value-writes : (s : List ℕ) (at bound : ℕ) (v : Value) (next : ℕ) → Below 256 s → value_at s at bound ≡ Found v next → Readable s at v next
read-value-writes s at bound v next bytes e = by_head (head_at s at bound) refl
  where
    by_content : (kind nx len : ℕ) → head_at s at bound ≡ Tag 0 false kind (Definite len) nx → content_at s at kind nx len ≡ Found v next → Readable s at v next
    by_content kind nx len h q =
        let a = accepted s at bound 0 false kind len nx bytes h in
        let w = content-whole s at kind nx len v next q in
        let r = content-inv s at nx len bytes w a.lengths v next kind q in
        let c = r.1 in
        let n = r.0 in
        record {
          held = c.held;
          bs = c.bs;
          writes = c.writes;
          shortest-form = λ x.
              let l = c.same x in
              let p = primitive-length (kind_of v) c.bs in
              let t : length (tag_octets 0 false kind) ≡ length (tag_octets 0 false (kind_of v)) = ap (λ (i : ℕ). length (tag_octets 0 false i)) c.kind-is in
              let z : length (length_octets (length c.bs)) ≡ length (length_octets len) = ap (λ (i : ℕ). length (length_octets i)) l in
              let s = a.shortest in
              omega arith;
        }

    by_head : (h : Head) → head_at s at bound ≡ h → Readable s at v next
    by_head (NoTag p) h = absurd (refused (value-by s at bound h ∙ e))
    by_head (Tag class c kind l nx) h =
        ⊎_elim (λ (z : class ≡ 0). by_bit c l z refl h) (λ (z : class ≡ 0 → ⊥). absurd (other (value-class s at bound h z ∙ e))) (same_or class 0)
      where
        by_bit : (c : Bool) (l : Length) → class ≡ 0 → c ≡ c → head_at s at bound ≡ Tag class c kind l nx → Readable s at v next
        by_bit true l z r h = absurd (other (value-constructed s at bound h z refl ∙ e))
        by_bit false Indefinite z r h = absurd (other (value-primitive s at bound h z refl ∙ e))
        by_bit false (Definite len) z r h = by_content kind nx len (h ∙ ap (λ (i : ℕ). Tag i false kind (Definite len) nx) z)
            (value-primitive s at bound h z refl ∙ e)

-- What is read, if it is written again, is read as the same value.
pub read_again : (s : List ℕ) (at bound : ℕ) (v : Value) (next : ℕ) → Below 256 s → value_at s at bound ≡ Found v next
    → (out : List ℕ) (p e : ℕ) (o : List ℕ) (limit : ℕ) → e ≤ limit → put_value s out p v ≡ outcome (Some e) o
    → (value_at o p limit ≡ Found (moved e v) e) × (octets_of o (moved e v) ≡ octets_of s v)
read_again s at bound v next bytes q out p e o limit inside d =
    written-read-value s out p e o limit inside v (read-value-writes s at bound v next bytes q).held d
