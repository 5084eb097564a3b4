-- What is known of a signature that was read: its numbers are within the limits of 01.
-- Assumes nothing.
use Prim.Native.Nat.{ℕ, zero, suc, ◌+◌, ◌-◌, ◌≤◌, ◌<◌}
use native.Mathlib.Omega.{arith}
use mathlib.Core.Path.{◌≡◌, refl, ap, subst}
use mathlib.Core.Bool.{◌&&◌}
use mathlib.Core.List.{List}
use lib.ListN.{length, get_or}
use lib.Dec.{ltb, eqb}
use borrow.Author.Tests.{eqb-true}
use Rattle.rules.specs.Words.{limit12, signature_base, within}
use Rattle.rules.specs.Refusals.{ok, demand, bad_signature}
use Rattle.rules.specs.Signature.{Sig, heads, payload_at, kinds_at, read_signature}
use Rattle.meaning.specs.Meaning.{All}
use Rattle.meaning.proofs.Lists.{and_right}
use Rattle.meaning.proofs.Results.{ok_inj, bind_ok, demand_ok}
use Rattle.meaning.proofs.Reading.{within_low, within_high}

pub record SoundSignature (s : Sig) : Type 0 where
  pub some_head : 1 ≤ heads s
  pub few_heads : heads s ≤ limit12
  pub few_globals_lem : s.globals ≤ limit12
  pub value_eq_known : s.value_eq < heads s
  pub value_eq_primitive : get_or s.kinds s.value_eq 0 ≡ 2
  pub three_kinds : All (λ (k : ℕ). k < 3) s.kinds

-- a payload is one of `size` numbers from `low` on
payload_within : (ws : List ℕ) (low size p n : ℕ) → payload_at ws low size p ≡ ok n → (low ≤ n) × (n < low + size)
payload_within ws low size p n e =
    let w = get_or ws p 0 in
    let d = demand_ok (ltb p (length ws) && within (signature_base + low) size w) bad_signature p (w - signature_base) n e in
    let i = and_right (ltb p (length ws)) (within (signature_base + low) size w) d.0 in
    let l = within_low (signature_base + low) size w i in
    let h = within_high (signature_base + low) size w i in
    let q = d.1 in
    (omega arith, omega arith)

kinds_read : (ws : List ℕ) (n p : ℕ) (ks : List ℕ) → kinds_at ws n p ≡ ok ks → (length ks ≡ n) × All (λ (k : ℕ). k < 3) ks
kinds_read ws zero p ks e = subst (λ (l : List ℕ). (length l ≡ 0) × All (λ (k : ℕ). k < 3) l) (ok_inj _ _ e) (refl, tt)
kinds_read ws (suc n) p ks e =
    let k = bind_ok (payload_at ws 0 3 p) _ ks e in
    let r = bind_ok (kinds_at ws n (suc p)) _ ks k.2 in
    let i = payload_within ws 0 3 p k.0 k.1 in
    let j = kinds_read ws n (suc p) r.0 r.1 in
    subst (λ (l : List ℕ). (length l ≡ suc n) × All (λ (k : ℕ). k < 3) l) (ok_inj _ _ r.2) (ap suc j.0, (i.1, j.1))

pub signature_sound : (ws : List ℕ) (s : Sig) → read_signature ws ≡ ok s → SoundSignature s
signature_sound ws s e =
    let h = bind_ok (payload_at ws 1 limit12 0) _ s e in
    let g = bind_ok (payload_at ws 0 (suc limit12) 1) _ s h.2 in
    let v = bind_ok (payload_at ws 0 h.0 2) _ s g.2 in
    let f = bind_ok (payload_at ws 0 2 3) _ s v.2 in
    let ks = bind_ok (kinds_at ws h.0 4) _ s f.2 in
    let n = bind_ok (demand (eqb (length ws) (4 + h.0)) bad_signature (4 + h.0) h.0) _ s ks.2 in
    let d = demand_ok (eqb (get_or ks.0 v.0 0) 2) bad_signature 2 _ s n.2 in
    let hs = payload_within ws 1 limit12 0 h.0 h.1 in
    let gs = payload_within ws 0 (suc limit12) 1 g.0 g.1 in
    let vs = payload_within ws 0 h.0 2 v.0 v.1 in
    let k = kinds_read ws h.0 4 ks.0 ks.1 in
    subst SoundSignature d.1
    (record {
      some_head = omega (arith, hs.0, k.0);
      few_heads = omega (arith, hs.1, k.0);
      few_globals_lem = omega (arith, gs.1);
      value_eq_known = omega (arith, vs.1, k.0);
      value_eq_primitive = eqb-true _ _ d.0;
      three_kinds = k.1;
    })
