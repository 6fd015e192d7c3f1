-- A tag and a short length before content octets.
use Rattle.std.specs.Prelude.{Option, Some, None}
use Prim.Native.Nat.{ℕ, ◌+◌, ◌-◌, ◌*◌, ◌≤◌, ◌<◌}
use mathlib.Core.Path.{◌≡◌, refl, sym, ap, subst, ◌∙◌}
use mathlib.Core.List.{List, [], ◌∷◌, ◌++◌}
use mathlib.Core.Bool.{false}
use mathlib.Core.Logic.{⊎_elim}
use native.Mathlib.Omega.{arith}
use borrow.Author.Tests.{lt-ltb}
use lib.ListN.{length, take, drop, set, length-append}
use Rattle.ber_integers.specs.Digits.{Put, put, unchanged, outcome}
use Rattle.ber_integers.proofs.Laws.{put-out}
use Rattle.ber_integers.proofs.Laws.{length_part}
use Rattle.ber_integers.proofs.Radix.{lt-or-le}
use Rattle.ber_integers.proofs.Output.{append-none, append-done, put-fits, put_next, put-length, cons-none, cons-done}
use Rattle.ber_tags.specs.Write.{bit, tag_octets, length_octets}
use Rattle.ber_reals.specs.Write.{Form, unwritten, octets, put_form}
use Rattle.ber_tags.specs.Write.{put_length}
use Rattle.ber_tag_writer.proofs.Laws.{put-length-is}
use Rattle.ber_values.specs.Write.{primitive, part, put_part, put_primitive, put_head, Sealable}
use Rattle.ber_values.proofs.Laws.{text_out, text_in}
use Rattle.ber_value_writer.proofs.Laws.{part_out, part_in}

-- a kind below 31 is one octet, and so is a length below 128
pub kind-octet : (kind : ℕ) → kind < 31 → tag_octets 0 false kind ≡ kind ∷ []
unfolding tag_octets
kind-octet kind h = let e : 0 * 64 + bit false + kind ≡ kind = omega arith in simp (lt-ltb _ _ h) (ap (λ (x : ℕ). x ∷ []) e)

pub length-octet : (n : ℕ) → n < 128 → length_octets n ≡ n ∷ []
unfolding length_octets
length-octet n h = simp (lt-ltb _ _ h)

pub primitive-cons : (kind : ℕ) (bs : List ℕ) → kind < 31 → primitive kind bs ≡ kind ∷ (length_octets (length bs) ++ bs)
unfolding primitive
primitive-cons kind bs h = ap (λ (l : List ℕ). l ++ (length_octets (length bs) ++ bs)) (kind-octet kind h)

pub primitive-small : (kind : ℕ) (bs : List ℕ) → kind < 31 → length bs < 128 → primitive kind bs ≡ kind ∷ (length bs ∷ bs)
primitive-small kind bs h k = primitive-cons kind bs h ∙ ap (λ (l : List ℕ). kind ∷ (l ++ bs)) (length-octet (length bs) k)

module _ (out : List ℕ) (at kind : ℕ) (bs : List ℕ) (one : kind < 31) (short : length bs < 128) where
  -- no room for tag and length
  pub head-none : length out < at + 2 → put out at (primitive kind bs) ≡ unchanged out
  head-none h = rw (primitive-small kind bs one short) (put-out out at (kind ∷ (length bs ∷ bs)) (omega arith))

  module _ (w : Option ℕ) (o : List ℕ) (done : put out (at + 2) bs ≡ outcome w o) where
    two : at + 2 ≡ at + 1 + 1
    two = omega arith

    content : put out (at + 1 + 1) bs ≡ outcome w o
    content = rw two at done

    pub head-fits : Sealable o at w
    head-fits = go w refl
      where
        go : (v : Option ℕ) → w ≡ v → Sealable o at v
        go None e = tt
        go (Some n) e =
            let d : put out (at + 2) bs ≡ outcome (Some n) o = rw e at done in
            let f = put-fits out (at + 2) bs n o d in
            let x = put_next out (at + 2) bs n o d in
            let l = put-length out (at + 2) bs n o d in
            (omega arith, (omega arith, omega arith))

    pub head-put : put out at (primitive kind bs) ≡ put_head o at kind w
    head-put = ap (put out at) (primitive-small kind bs one short) ∙ go w refl
      where
        go : (v : Option ℕ) → w ≡ v → put out at (kind ∷ (length bs ∷ bs)) ≡ put_head o at kind v
        go None e = cons-none out at kind (length bs ∷ bs) None o (cons-none out (at + 1) (length bs) bs w o content e) refl
        go (Some n) e =
            let d : put out (at + 2) bs ≡ outcome (Some n) o = rw e at done in
            let f = put-fits out (at + 2) bs n o d in
            let x = put_next out (at + 2) bs n o d in
            let k : n - (at + 2) ≡ length bs = omega arith in
            let one_more = cons-done out (at + 1) (length bs) bs w n o content e (omega arith) in
            cons-done out at kind (length bs ∷ bs) (Some n) n (set o (at + 1) (length bs)) one_more refl (omega arith)
            ∙ ap (λ (i : ℕ). outcome (Some n) (set (set o (at + 1) i) at kind)) (sym k)

-- content that may not be written at all
module _ (out : List ℕ) (at kind : ℕ) (one : kind < 31) where
  pub form-none : (f : Form) → ((bs : List ℕ) → f ≡ octets bs → length bs < 128) → length out < at + 2 → put_primitive out at kind f ≡ unchanged out
  form-none unwritten short h = refl
  form-none (octets bs) short h = head-none out at kind bs one (short bs refl) h

  pub form-fits : (f : Form) → ((bs : List ℕ) → f ≡ octets bs → length bs < 128) → (w : Option ℕ) (o : List ℕ)
      → put_form out (at + 2) f ≡ outcome w o → Sealable o at w
  form-fits unwritten short w o d = let e : None ≡ w = ap (λ (p : Put). p.answer) d in subst (Sealable o at) e tt
  form-fits (octets bs) short w o d = head-fits out at kind bs one (short bs refl) w o d

  pub form-put : (f : Form) → ((bs : List ℕ) → f ≡ octets bs → length bs < 128) → (w : Option ℕ) (o : List ℕ)
      → put_form out (at + 2) f ≡ outcome w o → put_primitive out at kind f ≡ put_head o at kind w
  form-put unwritten short w o d =
      let e : None ≡ w = ap (λ (p : Put). p.answer) d in
      let l : out ≡ o = ap (λ (p : Put). p.out) d in
      ap unchanged l ∙ ap (put_head o at kind) e
  form-put (octets bs) short w o d = head-put out at kind bs one (short bs refl) w o d

-- text or octets: the content first, then the length, then the tag
module _ (src : List ℕ) (start len : ℕ) (out : List ℕ) (at kind : ℕ) (one : kind < 31) (few : len ≤ 4294967295) where
  content-octets : List ℕ
  content-octets = take len (drop start src)

  whole-text : start + len ≤ length src → primitive kind content-octets ≡ kind ∷ (length_octets len ++ content-octets)
  unfolding content-octets
  whole-text w = primitive-cons kind (take len (drop start src)) one
      ∙ ap (λ (n : ℕ). kind ∷ (length_octets n ++ take len (drop start src))) (length_part src start len w)

  pub text-none : length out < at + (length (length_octets len) + 1) → put_primitive out at kind (part src start len) ≡ unchanged out
  unfolding content-octets
  text-none h =
      ⊎_elim
      (λ (w : length src < start + len). ap (put_primitive out at kind) (text_out src start len few w))
      (λ (w : start + len ≤ length src).
      let l = length-append (length_octets len) (take len (drop start src)) in
      ap (put_primitive out at kind) (text_in src start len few w)
      ∙ ap (put out at) (whole-text w)
      ∙ put-out out at (kind ∷ (length_octets len ++ take len (drop start src))) (omega arith))
      (lt-or-le (length src) (start + len))

  module _ (h : ℕ) (size : h ≡ length (length_octets len)) (r : Option ℕ) (o : List ℕ) (copied : put_part src start len out (at + 1 + h) ≡ outcome r o) where
    there : start + len ≤ length src → put out (at + 1 + length (length_octets len)) content-octets ≡ outcome r o
    unfolding content-octets
    there w = rw size at (sym (part_in src start len out (at + 1 + h) w) ∙ copied)

    pub text-stop : r ≡ None → put_primitive out at kind (part src start len) ≡ outcome None o
    unfolding content-octets
    text-stop e =
        ⊎_elim
        (λ (w : length src < start + len).
        let q : unchanged out ≡ outcome r o = sym (part_out src start len out (at + 1 + h) w) ∙ copied in
        ap (put_primitive out at kind) (text_out src start len few w) ∙ q ∙ ap (λ (x : Option ℕ). outcome x o) e)
        (λ (w : start + len ≤ length src).
        let d : put out (at + 1 + length (length_octets len)) (take len (drop start src)) ≡ outcome None o = rw e at (there w) in
        ap (put_primitive out at kind) (text_in src start len few w)
        ∙ ap (put out at) (whole-text w)
        ∙ cons-none out at kind (length_octets len ++ take len (drop start src)) None o
        (append-none out (at + 1) (length_octets len) (take len (drop start src)) o d) refl)
        (lt-or-le (length src) (start + len))

    pub text-done : (e : ℕ) → r ≡ Some e → (r2 : Option ℕ) (o2 : List ℕ) → put_length o (at + 1) len ≡ outcome r2 o2 → at < length out
        → put_primitive out at kind (part src start len) ≡ outcome (Some e) (set o2 at kind)
    unfolding content-octets
    text-done e k r2 o2 q room =
        ⊎_elim
        (λ (w : length src < start + len).
        let z : None ≡ Some e = ap (λ (p : Put). p.answer) (sym (part_out src start len out (at + 1 + h) w) ∙ copied) ∙ k in
        let n : ◌≡◌ {A = ℕ} 0 1 = cc in absurd (omega arith))
        (λ (w : start + len ≤ length src).
        let d : put out (at + 1 + length (length_octets len)) (take len (drop start src)) ≡ outcome (Some e) o = rw k at (there w) in
        let l = (append-done out (at + 1) (length_octets len) (take len (drop start src)) e o d r2 o2 (sym (put-length-is o (at + 1) len few) ∙ q)).1 in
        ap (put_primitive out at kind) (text_in src start len few w)
        ∙ ap (put out at) (whole-text w)
        ∙ cons-done out at kind (length_octets len ++ take len (drop start src)) (Some e) e o2 l refl room)
        (lt-or-le (length src) (start + len))
