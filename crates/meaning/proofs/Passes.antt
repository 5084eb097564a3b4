-- The run of merge passes, step by step as code goes. Assumes nothing.
use Prim.Native.Nat.{ℕ, zero, suc, ◌-◌, ◌<◌}
use native.Mathlib.Omega.{arith}
use mathlib.Core.Path.{◌≡◌, refl, sym, ap, ◌∙◌}
use mathlib.Core.List.{List, [], ◌∷◌, ◌++◌, map, append_assoc}
use mathlib.Core.Option.{Option, none, some}
use lib.ListN.{length}
use Rattle.rules.specs.Signature.{Sig}
use Rattle.rules.specs.Flat.{Tab, Atom, tab}
use Rattle.rules.specs.Canonicalize.{Replacement, replace_atom, first_replacement, Body, replace_step, replace_up_to, resolve, canonicalize}
use Rattle.rules.specs.RemoveDupVars.{keep, merged, after_pass, remove_dup_vars, settle}
use Rattle.meaning.proofs.RemoveDupVarsEnds.{behind, behind_start, behind_falls}

-- ---- replacements made before stay behind those of a canonicalize

up_to_repls : (s : Sig) (n : ℕ) (xs : List Atom) (rs : List Replacement)
    → replace_up_to s n xs rs ≡ record { atoms = (replace_up_to s n xs []).atoms; repls = (replace_up_to s n xs []).repls ++ rs }
up_to_repls s zero xs rs = refl
up_to_repls s (suc n) xs rs = go (first_replacement s xs) (λ ys qs. up_to_repls s n ys qs)
  where
    After : Body → Body
    After b = record { atoms = b.atoms; repls = b.repls ++ rs }

    go : (o : Option Replacement)
        → ((ys : List Atom) (qs : List Replacement)
        → replace_up_to s n ys qs ≡ record { atoms = (replace_up_to s n ys []).atoms; repls = (replace_up_to s n ys []).repls ++ qs })
        → replace_step o xs rs (λ ys qs. replace_up_to s n ys qs) ≡ After (replace_step o xs [] (λ ys qs. replace_up_to s n ys qs))
    go none ih = refl
    go (some r) ih =
        let ys = map (replace_atom r) xs in
        let one = ih ys (r ∷ []) in
        ih ys (r ∷ rs)
        ∙ ap (λ (qs : List Replacement). record { atoms = (replace_up_to s n ys []).atoms; repls = qs }) (sym (append_assoc (replace_up_to s n ys []).repls (r ∷ []) rs))
        ∙ ap After (sym one)

pub canonicalize_repls : (s : Sig) (xs : List Atom) (rs : List Replacement)
    → canonicalize s xs rs ≡ record { tabs = (canonicalize s xs []).tabs; repls = (canonicalize s xs []).repls ++ rs }
canonicalize_repls s xs rs = ap (λ (b : Body). record { tabs = resolve s b.atoms; repls = b.repls }) (up_to_repls s (length xs) xs rs)

-- ---- the run of passes, k having been made

pub record Passing (s : Sig) (xs : List Atom) (ts : List Tab) (rs : List Replacement) (k : ℕ) : Type 0 where
  pub same : remove_dup_vars s (suc (length xs) - k) ts rs k ≡ settle s xs
  pub falls : behind ts < suc (length xs) - k

pub pass_start : (s : Sig) (xs : List Atom) → Passing s xs (canonicalize s xs []).tabs (canonicalize s xs []).repls 0
pass_start s xs =
    let c = canonicalize s xs [] in
    record {
      same = ap (λ (n : ℕ). remove_dup_vars s n c.tabs c.repls 0) (none_made (suc (length xs)));
      falls = omega (arith, behind_start s xs);
    }
  where
    none_made : (n : ℕ) → n - 0 ≡ n
    none_made n = omega arith

module _ (s : Sig) (xs : List Atom) (ts : List Tab) (rs : List Replacement) (k : ℕ) (p : Passing s xs ts rs k) where
  one_more : suc (length xs) - k ≡ suc (suc (length xs) - suc k)
  one_more = omega (arith, p.falls)

  -- the pass that gives no equality is the last
  pub pass_last : merged [] ts ≡ [] → settle s xs ≡ record { tabs = keep [] ts; repls = rs; passes = suc k }
  pass_last e =
      sym p.same ∙ ap (λ (n : ℕ). remove_dup_vars s n ts rs k) one_more
      ∙ ap (λ (es : List Atom). after_pass s es (keep [] ts) rs k (λ us qs j. remove_dup_vars s (suc (length xs) - suc k) us qs j)) e

  -- after any other its equalities go in front, and canonicalize runs
  pub pass_next : (n : ℕ) → length (merged [] ts) ≡ suc n
      → let c = canonicalize s (merged [] ts ++ map tab (keep [] ts)) rs in Passing s xs c.tabs c.repls (suc k)
  pass_next n = go (merged [] ts) refl
    where
      go : (es : List Atom) → merged [] ts ≡ es → length es ≡ suc n
          → let c = canonicalize s (es ++ map tab (keep [] ts)) rs in Passing s xs c.tabs c.repls (suc k)
      go [] m h = absurd (omega arith)
      go (x ∷ es) m h =
          record {
            same = ap (λ (zs : List Atom). after_pass s zs (keep [] ts) rs k (λ us qs j. remove_dup_vars s (suc (length xs) - suc k) us qs j)) (sym m)
                ∙ ap (λ (n : ℕ). remove_dup_vars s n ts rs k) (sym one_more) ∙ p.same;
            falls = omega (arith, p.falls, behind_falls s ts rs x es m);
          }
