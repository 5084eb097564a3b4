-- What the words of a signature that was read say. Assumes nothing.
use mathlib.Core.Path.{◌≡◌, refl, sym, ap, ◌∙◌, subst}
use mathlib.Core.Bool.{Bool, true, false, ◌&&◌}
use mathlib.Core.List.{List, ◌∷◌}
use Prim.Native.Nat.{ℕ, zero, suc, ◌+◌, ◌≤◌, ◌<◌}
use native.Mathlib.Omega.{arith}
use lib.Dec.{ltb, eqb}
use lib.ListN.{length, get_or}
use borrow.Author.Tests.{ltb-true, eqb-true, eq-eqb, ne_eqb}
use Rattle.rules.specs.Words.{limit12, signature_base, within}
use Rattle.rules.specs.Refusals.{ok, bad_signature}
use Rattle.rules.specs.Signature.{Sig, heads, payload_at, kinds_at, read_signature}
use Rattle.meaning.proofs.Results.{bind_ok, ok_inj, demand_ok}
use Rattle.meaning.proofs.Lists.{and_left, and_right}
use Rattle.meaning.proofs.Reading.{within_low, within_high}
use Rattle.core_actions.specs.Unions.{Signed}

record Payload (gs : List ℕ) (low size p n : ℕ) : Type 0 where
  pub inside : p < length gs
  pub is : get_or gs p 0 ≡ signature_base + n
  pub from : low ≤ n
  pub below : n < low + size

payload : (gs : List ℕ) (low size p n : ℕ) → payload_at gs low size p ≡ ok n → Payload gs low size p n
payload gs low size p n e =
    let w = get_or gs p 0 in
    let d = demand_ok (ltb p (length gs) && within (signature_base + low) size w) bad_signature p _ n e in
    let t = and_right (ltb p (length gs)) (within (signature_base + low) size w) d.0 in
    let a = within_low (signature_base + low) size w t in
    let b = within_high (signature_base + low) size w t in
    let v = d.1 in
    record { inside = ltb-true p (length gs) (and_left (ltb p (length gs)) (within (signature_base + low) size w) d.0); is = omega arith; from = omega arith; below = omega arith }

-- a word says 1 where its payload is 1
says_one : (w n : ℕ) → w ≡ signature_base + n → eqb n 1 ≡ eqb w (signature_base + 1)
says_one w n e = go (eqb n 1) refl
  where
    go : (b : Bool) → eqb n 1 ≡ b → eqb n 1 ≡ eqb w (signature_base + 1)
    go true t = let z = eqb-true n 1 t in t ∙ sym (eq-eqb w (signature_base + 1) (omega arith))
    go false t = t ∙ sym (ne_eqb w (signature_base + 1) (λ z. differ (eq-eqb n 1 (omega arith)) t))
      where
        differ : eqb n 1 ≡ true → eqb n 1 ≡ false → ⊥
        differ a b = let c : true ≡ false = sym a ∙ b in let z : ◌≡◌ {A = ℕ} 0 1 = cc in omega arith

record KindsAt (gs : List ℕ) (n p : ℕ) (ks : List ℕ) : Type 0 where
  pub many : length ks ≡ n
  pub each : (i : ℕ) → i < n → get_or gs (p + i) 0 ≡ signature_base + get_or ks i 0

kinds : (gs : List ℕ) (n p : ℕ) (ks : List ℕ) → kinds_at gs n p ≡ ok ks → KindsAt gs n p ks
kinds gs zero p ks e = subst (KindsAt gs zero p) (ok_inj _ _ e) (record { many = refl; each = λ i h. absurd (omega arith) })
kinds gs (suc n) p ks e =
    let k = bind_ok (payload_at gs 0 3 p) _ ks e in
    let r = bind_ok (kinds_at gs n (suc p)) _ ks k.2 in
    let a = payload gs 0 3 p k.0 k.1 in
    let b = kinds gs n (suc p) r.0 r.1 in
    subst (KindsAt gs (suc n) p) (ok_inj _ _ r.2) (record { many = ap suc b.many; each = λ i h. go a b i h })
  where
    go : {k : ℕ} {rs : List ℕ} → Payload gs 0 3 p k → KindsAt gs n (suc p) rs → (i : ℕ) → i < suc n → get_or gs (p + i) 0 ≡ signature_base + get_or (k ∷ rs) i 0
    go a b zero h = let z : p + 0 ≡ p = omega arith in ap (λ (j : ℕ). get_or gs j 0) z ∙ a.is
    go a b (suc i) h = let z : p + suc i ≡ suc p + i = omega arith in ap (λ (j : ℕ). get_or gs j 0) z ∙ b.each i (omega arith)

pub record SignatureWords (sig : Sig) (gs : List ℕ) : Type 0 where
  pub signed : Signed sig gs
  pub few : heads sig ≤ limit12
  pub globals : get_or gs 1 0 ≡ signature_base + sig.globals
  pub few_globals : sig.globals ≤ limit12

pub signature_words : (sig : Sig) (gs : List ℕ) → read_signature gs ≡ ok sig → SignatureWords sig gs
signature_words sig gs e =
    let h = bind_ok (payload_at gs 1 limit12 0) _ sig e in
    let g = bind_ok (payload_at gs 0 (suc limit12) 1) _ sig h.2 in
    let v = bind_ok (payload_at gs 0 h.0 2) _ sig g.2 in
    let f = bind_ok (payload_at gs 0 2 3) _ sig v.2 in
    let ks = bind_ok (kinds_at gs h.0 4) _ sig f.2 in
    let n = bind_ok _ _ sig ks.2 in
    let l = demand_ok (eqb (length gs) (4 + h.0)) bad_signature (4 + h.0) _ n.0 n.1 in
    let d = demand_ok (eqb (get_or ks.0 v.0 0) 2) bad_signature 2 _ sig n.2 in
    made h.0 g.0 v.0 f.0 ks.0 (payload gs 1 limit12 0 h.0 h.1) (payload gs 0 (suc limit12) 1 g.0 g.1) (payload gs 0 2 3 f.0 f.1) (kinds gs h.0 4 ks.0 ks.1)
    (eqb-true (length gs) (4 + h.0) l.0) d.1
  where
    made : (h g v f : ℕ) (ks : List ℕ) → Payload gs 1 limit12 0 h → Payload gs 0 (suc limit12) 1 g → Payload gs 0 2 3 f → KindsAt gs h 4 ks → length gs ≡ 4 + h
        → record { globals = g; value_eq = v; flag = eqb f 1; kinds = ks } ≡ sig → SignatureWords sig gs
    made h g v f ks ph pg pf pk len is =
        let m = pk.many in
        subst (λ (s : Sig). SignatureWords s gs) is
        (record {
          signed =
              record {
                flag = says_one (get_or gs 3 0) f pf.is;
                inside = omega arith;
                kinds = λ i k. says_one (get_or gs (4 + i) 0) (get_or ks i 0) (pk.each i (under i k m));
              };
          few = omega (arith, ph.below);
          globals = pg.is;
          few_globals = omega (arith, pg.below);
        })
      where
        under : (i : ℕ) → i < length ks → length ks ≡ h → i < h
        under i k m = omega arith
