-- Small atoms through merge passes: how many of their outputs are left, and how many words that saves.
-- Assumes nothing.
use Prim.Native.Nat.{ℕ, zero, suc, ◌+◌, ◌*◌, ◌≤◌}
use native.Mathlib.Omega.{arith}
use mathlib.Core.Path.{◌≡◌, refl, sym, ◌∙◌, ap, ap₂, subst}
use mathlib.Core.Bool.{Bool, true, false, cond, not, ◌&&◌, ◌||◌, false≢true}
use mathlib.Core.List.{List, [], ◌∷◌, ◌++◌, map}
use mathlib.Core.Option.{none}
use lib.ListN.{length, length-append}
use lib.Dec.{eqb, leb}
use borrow.Author.Tests.{eqb-true, eq-eqb, leb-true}
use Rattle.rules.specs.Signature.{Sig, is_var, same_term, elem}
use Rattle.rules.specs.Flat.{Tab, Atom, eqn, tab, tab_words, words_of}
use Rattle.rules.specs.Canonicalize.{Replacement, first_replacement, resolve, canonicalize}
use Rattle.rules.specs.RemoveDupVars.{alike, seen, keep, clashes, merged, after_pass, remove_dup_vars, settle}
use Rattle.meaning.specs.Meaning.{All}
use Rattle.meaning.specs.Weight.{tabs_weight, weight}
use Rattle.meaning.proofs.Lists.{and_left, and_right, or_left, or_right, cond_both, all_map}
use Rattle.meaning.proofs.SameTerms.{same_as_var}
use Rattle.meaning.proofs.DistinctWords.{NoDup, Within, no_longer, distinct_length, elem_append}
use Rattle.meaning.proofs.WordLaws.{length_tab}
use Rattle.meaning.proofs.MergePass.{alike_count, IsEqn, merged_eqns}
use Rattle.meaning.proofs.Replacements.{olds, olds_length}
use Rattle.meaning.proofs.Room.{weight_settle}
use Rattle.meaning.proofs.SmallAtoms.{is_small, cons_if, small_outs, small_outs_in, has_eqn, eqn_left, eqn_right, cons_kept, cons_first}
use Rattle.meaning.proofs.SmallAtoms.{Kept, taken, is_out, is_next, TakenOrOut, kept_resolved, kept_canonicalized}

-- ---- through a merge pass

-- f, a first atom met before, has the output u, or gives an equality with it
abbrev claims : ℕ → Tab → List Tab → Bool
claims u f ts = is_small f && (eqb u f.out || has_eqn f.out u (clashes f ts))

abbrev claimed : ℕ → List Tab → List Tab → Bool
claimed u [] ts = false
claimed u (f ∷ fs) ts = claims u f ts || claimed u fs ts

-- what becomes of a small atom's output: its atom stays, or one that stays is made equal to it, or a first atom met before claims it
data Fate (ks : List Tab) (es : List Atom) (before : Bool) (u : ℕ) : Type 0 where
  stays : elem u (small_outs ks) ≡ true → Fate ks es before u
  joins : (w : ℕ) → elem w (small_outs ks) ≡ true → has_eqn w u es ≡ true → Fate ks es before u
  earlier : before ≡ true → Fate ks es before u

claims_later : (u : ℕ) (f a : Tab) (xs : List Tab) → claims u f xs ≡ true → claims u f (a ∷ xs) ≡ true
claims_later u f a xs = go (is_small f) (eqb u f.out)
  where
    more : has_eqn f.out u (clashes f xs) ≡ true → has_eqn f.out u (clashes f (a ∷ xs)) ≡ true
    more h =
        cond_both (λ (l : List Atom). has_eqn f.out u l ≡ true) (alike f a && not (same_term f.out a.out))
        (eqn 0 f.out a.out ∷ clashes f xs) (clashes f xs)
        (or_right (eqb f.out f.out && eqb u a.out) (has_eqn f.out u (clashes f xs)) h) h

    go : (s o : Bool) → (s && (o || has_eqn f.out u (clashes f xs))) ≡ true → (s && (o || has_eqn f.out u (clashes f (a ∷ xs)))) ≡ true
    go true true h = refl
    go true false h = more h
    go false o h = h

claimed_later : (u : ℕ) (a : Tab) (xs fs : List Tab) → claimed u fs xs ≡ true → claimed u fs (a ∷ xs) ≡ true
claimed_later u a xs [] h = h
claimed_later u a xs (f ∷ fs) h = go (claims u f xs) refl h (λ k. claimed_later u a xs fs k)
  where
    go : (c : Bool) → claims u f xs ≡ c → (c || claimed u fs xs) ≡ true → (claimed u fs xs ≡ true → claimed u fs (a ∷ xs) ≡ true)
        → (claims u f (a ∷ xs) || claimed u fs (a ∷ xs)) ≡ true
    go true e k ih = or_left (claims u f (a ∷ xs)) (claimed u fs (a ∷ xs)) (claims_later u f a xs e)
    go false e k ih = or_right (claims u f (a ∷ xs)) (claimed u fs (a ∷ xs)) (ih k)

-- an atom of a group met before, whose output is a variable, is claimed by that group's first atom
seen_claimed : (s : Sig) (a : Tab) (xs fs : List Tab) → is_var s a.out ≡ true → is_small a ≡ true → seen a fs ≡ true → claimed a.out fs (a ∷ xs) ≡ true
seen_claimed s a xs [] v sm h = absurd (false≢true h)
seen_claimed s a xs (f ∷ fs) v sm h = go (alike f a) refl h (λ k. seen_claimed s a xs fs v sm k)
  where
    u : ℕ
    u = a.out

    same : Bool → Bool
    same d = eqb u f.out || has_eqn f.out u (cond (true && not d) (eqn 0 f.out u ∷ clashes f xs) (clashes f xs))

    either : (d : Bool) → same_term f.out u ≡ d → same d ≡ true
    either true e = or_left (eqb u f.out) _ (eq-eqb u f.out (sym (same_as_var s f.out u v e)))
    either false e =
        or_right (eqb u f.out) _
        (or_left (eqb f.out f.out && eqb u u) (has_eqn f.out u (clashes f xs)) (ap₂ ◌&&◌ (eq-eqb f.out f.out refl) (eq-eqb u u refl)))

    go : (c : Bool) → alike f a ≡ c → (c || seen a fs) ≡ true → (seen a fs ≡ true → claimed u fs (a ∷ xs) ≡ true)
        → (claims u f (a ∷ xs) || claimed u fs (a ∷ xs)) ≡ true
    go true e k ih =
        let small : is_small f ≡ true = ap (λ (n : ℕ). leb n 1) (alike_count f a e) ∙ sm in
        let eqs : clashes f (a ∷ xs) ≡ cond (true && not (same_term f.out u)) (eqn 0 f.out u ∷ clashes f xs) (clashes f xs) =
        ap (λ (c : Bool). cond (c && not (same_term f.out u)) (eqn 0 f.out u ∷ clashes f xs) (clashes f xs)) e in
        or_left (claims u f (a ∷ xs)) (claimed u fs (a ∷ xs))
        (ap₂ ◌&&◌ small (ap (λ (l : List Atom). eqb u f.out || has_eqn f.out u l) eqs ∙ either (same_term f.out u) refl))
    go false e k ih = or_right (claims u f (a ∷ xs)) (claimed u fs (a ∷ xs)) (ih k)

module _ (s : Sig) (a : Tab) (xs fs : List Tab) (u : ℕ) (v : is_var s u ≡ true) where
  abbrev FateIf : Bool → Type 0
  FateIf c =
      Fate (cond c (keep fs xs) (a ∷ keep (a ∷ fs) xs)) (cond c (merged fs xs) (clashes a xs ++ merged (a ∷ fs) xs)) (claimed u fs (a ∷ xs)) u

  fate_own : is_small a ≡ true → eqb u a.out ≡ true → (c : Bool) → seen a fs ≡ c → FateIf c
  fate_own sm e true k =
      let q = eqb-true u a.out e in
      earlier (subst (λ (w : ℕ). claimed w fs (a ∷ xs) ≡ true) (sym q) (seen_claimed s a xs fs (ap (is_var s) (sym q) ∙ v) sm k))
  fate_own sm e false k = stays (cons_first (is_small a) u a.out (small_outs (keep (a ∷ fs) xs)) sm e)

  fate_old : Fate (keep fs xs) (merged fs xs) (claimed u fs xs) u → FateIf true
  fate_old (stays h) = stays h
  fate_old (joins w h k) = joins w h k
  fate_old (earlier h) = earlier (claimed_later u a xs fs h)

  fate_new : Fate (keep (a ∷ fs) xs) (merged (a ∷ fs) xs) (claimed u (a ∷ fs) xs) u → FateIf false
  fate_new (stays h) = stays (cons_kept (is_small a) u a.out (small_outs (keep (a ∷ fs) xs)) h)
  fate_new (joins w h k) =
      joins w (cons_kept (is_small a) w a.out (small_outs (keep (a ∷ fs) xs)) h) (eqn_right w u (clashes a xs) (merged (a ∷ fs) xs) k)
  fate_new (earlier h) = go (claims u a xs) refl h
    where
      by_output : is_small a ≡ true → (o : Bool) → eqb u a.out ≡ o → (o || has_eqn a.out u (clashes a xs)) ≡ true → FateIf false
      by_output sm true e k = stays (cons_first (is_small a) u a.out (small_outs (keep (a ∷ fs) xs)) sm e)
      by_output sm false e k =
          joins a.out (cons_first (is_small a) a.out a.out (small_outs (keep (a ∷ fs) xs)) sm (eq-eqb a.out a.out refl))
          (eqn_left a.out u (clashes a xs) (merged (a ∷ fs) xs) k)

      go : (c : Bool) → claims u a xs ≡ c → (c || claimed u fs xs) ≡ true → FateIf false
      go true e k = by_output (and_left (is_small a) _ e) (eqb u a.out) refl (and_right (is_small a) _ e)
      go false e k = earlier (claimed_later u a xs fs k)

fate : (s : Sig) (fs ts : List Tab) (u : ℕ) → is_var s u ≡ true → elem u (small_outs ts) ≡ true → Fate (keep fs ts) (merged fs ts) (claimed u fs ts) u
fate s fs [] u v h = absurd (false≢true h)
fate s fs (a ∷ xs) u v h = own (is_small a) refl h (later (seen a fs) (λ k. fate s fs xs u v k) (λ k. fate s (a ∷ fs) xs u v k))
  where
    later : (c : Bool) → (elem u (small_outs xs) ≡ true → Fate (keep fs xs) (merged fs xs) (claimed u fs xs) u)
        → (elem u (small_outs xs) ≡ true → Fate (keep (a ∷ fs) xs) (merged (a ∷ fs) xs) (claimed u (a ∷ fs) xs) u)
        → elem u (small_outs xs) ≡ true → FateIf s a xs fs u v c
    later true old new k = fate_old s a xs fs u v (old k)
    later false old new k = fate_new s a xs fs u v (new k)

    pick : (o : Bool) → eqb u a.out ≡ o → is_small a ≡ true → (o || elem u (small_outs xs)) ≡ true
        → (elem u (small_outs xs) ≡ true → FateIf s a xs fs u v (seen a fs)) → FateIf s a xs fs u v (seen a fs)
    pick true q e k other = fate_own s a xs fs u v e q (seen a fs) refl
    pick false q e k other = other k

    own : (m : Bool) → is_small a ≡ m → elem u (cons_if m a.out (small_outs xs)) ≡ true
        → (elem u (small_outs xs) ≡ true → FateIf s a xs fs u v (seen a fs)) → FateIf s a xs fs u v (seen a fs)
    own true e k other = pick (eqb u a.out) refl e k other
    own false e k other = other k

-- ---- settling

outs_front : (es : List Atom) (ts : List Tab) → All IsEqn es → small_outs_in (es ++ map tab ts) ≡ small_outs ts
outs_front [] ts h = tabs ts
  where
    tabs : (us : List Tab) → small_outs_in (map tab us) ≡ small_outs us
    tabs [] = refl
    tabs (v ∷ us) = ap (cons_if (is_small v) v.out) (tabs us)
outs_front (eqn p a b ∷ es) ts h = outs_front es ts h.1
outs_front (tab t ∷ es) ts h = absurd h.0

module _ (s : Sig) (u : ℕ) (v : is_var s u ≡ true) where
  -- after a pass, whether it gave equalities or none
  kept_passed : (ts : List Tab) (rs : List Replacement) (es : List Atom) → All IsEqn es → TakenOrOut ts rs u
      → (elem u (small_outs ts) ≡ true → Fate (keep [] ts) es false u) → Kept (es ++ map tab (keep [] ts)) rs u
  kept_passed ts rs es q h f = go (elem u (olds rs)) refl (sym (elem_append u (olds rs) (small_outs ts)) ∙ h)
    where
      front : (w : ℕ) → elem w (small_outs (keep [] ts)) ≡ true → elem w (small_outs_in (es ++ map tab (keep [] ts))) ≡ true
      front w k = subst (λ (l : List ℕ). elem w l ≡ true) (sym (outs_front es (keep [] ts) q)) k

      place : Fate (keep [] ts) es false u → Kept (es ++ map tab (keep [] ts)) rs u
      place (stays k) = is_out (front u k)
      place (joins w k l) = is_next w (front w k) (eqn_left w u es (map tab (keep [] ts)) l)
      place (earlier k) = absurd (false≢true k)

      go : (c : Bool) → elem u (olds rs) ≡ c → (c || elem u (small_outs ts)) ≡ true → Kept (es ++ map tab (keep [] ts)) rs u
      go true e k = taken e
      go false e k = place (f k)

  kept_passes : (n : ℕ) (ts : List Tab) (rs : List Replacement) (k : ℕ) → TakenOrOut ts rs u
      → let b = remove_dup_vars s n ts rs k in TakenOrOut b.tabs b.repls u
  kept_passes zero ts rs k h = h
  kept_passes (suc n) ts rs k h = go (merged [] ts) (merged_eqns [] ts) (fate s [] ts u v) (λ us qs j. kept_passes n us qs j)
    where
      -- tables alone ask for nothing
      plain : (us : List Tab) → first_replacement s (map tab us) ≡ none
      plain [] = refl
      plain (t ∷ us) = plain us

      resolved : (us : List Tab) → resolve s (map tab us) ≡ us
      resolved [] = refl
      resolved (t ∷ us) = ap (λ (l : List Tab). t ∷ l) (resolved us)

      go : (es : List Atom) → All IsEqn es → (elem u (small_outs ts) ≡ true → Fate (keep [] ts) es false u)
          → ((us : List Tab) (qs : List Replacement) (j : ℕ) → TakenOrOut us qs u → let b = remove_dup_vars s n us qs j in TakenOrOut b.tabs b.repls u)
          → let b = after_pass s es (keep [] ts) rs k (λ us qs j. remove_dup_vars s n us qs j) in TakenOrOut b.tabs b.repls u
      go [] q f ih =
          subst (λ (us : List Tab). TakenOrOut us rs u) (resolved (keep [] ts))
          (kept_resolved s (map tab (keep [] ts)) rs u v (plain (keep [] ts)) (kept_passed ts rs [] tt h f))
      go (e ∷ es) q f ih =
          let ys = e ∷ es ++ map tab (keep [] ts) in
          let c = canonicalize s ys rs in
          ih c.tabs c.repls (suc k) (kept_canonicalized s ys rs u v (kept_passed ts rs (e ∷ es) q h f))

  kept_settled : (xs : List Atom) → elem u (small_outs_in xs) ≡ true → let b = settle s xs in TakenOrOut b.tabs b.repls u
  kept_settled xs h =
      let c = canonicalize s xs [] in
      kept_passes (suc (length xs)) c.tabs c.repls 0 (kept_canonicalized s xs [] u v (is_out h))

-- ---- how many there are

each_in : (us : List ℕ) → All (λ (u : ℕ). elem u us ≡ true) us
each_in [] = tt
each_in (u ∷ us) = (
  or_left (eqb u u) (elem u us) (eq-eqb u u refl),
  all_map (λ (w : ℕ). elem w us ≡ true) (λ (w : ℕ). elem w (u ∷ us) ≡ true) (λ w h. or_right (eqb w u) (elem w us) h) us (each_in us),
)

all_both : (P Q R : ℕ → Type 0) → ((w : ℕ) → P w → Q w → R w) → (ws : List ℕ) → All P ws → All Q ws → All R ws
all_both P Q R f [] h k = tt
all_both P Q R f (w ∷ ws) h k = (f w h.0 k.0, all_both P Q R f ws h.1 k.1)

-- small atoms with outputs of their own are no more than the replacements and the small atoms that are left
small_count : (s : Sig) (xs : List Atom) → NoDup (small_outs_in xs) → All (λ (u : ℕ). is_var s u ≡ true) (small_outs_in xs)
    → length (small_outs_in xs) ≤ length (settle s xs).repls + length (small_outs (settle s xs).tabs)
small_count s xs once vars =
    let us = small_outs_in xs in
    let b = settle s xs in
    let vs : List ℕ = olds b.repls ++ small_outs b.tabs in
    let within : Within vs us =
    all_both (λ (u : ℕ). is_var s u ≡ true) (λ (u : ℕ). elem u us ≡ true) (λ (u : ℕ). elem u vs ≡ true) (λ u v h. kept_settled s u v xs h) us vars (each_in us) in
    omega (
      arith,
      no_longer vs us once within,
      distinct_length vs,
      length-append (olds b.repls) (small_outs b.tabs),
      olds_length b.repls,
    )

-- a small atom has a word less than it weighs
small_words : (ts : List Tab) → length (words_of tab_words ts) + length (small_outs ts) ≤ tabs_weight ts
small_words [] = omega arith
small_words (t ∷ ts) = go (is_small t) refl (small_words ts)
  where
    go : (c : Bool) → is_small t ≡ c → length (words_of tab_words ts) + length (small_outs ts) ≤ tabs_weight ts
        → length (tab_words t ++ words_of tab_words ts) + length (cons_if c t.out (small_outs ts)) ≤ tabs_weight (t ∷ ts)
    go true e ih = omega (arith, length_tab t, length-append (tab_words t) (words_of tab_words ts), leb-true (length t.ins) 1 e)
    go false e ih = omega (arith, length_tab t, length-append (tab_words t) (words_of tab_words ts))

-- the words of the settled atoms and three for each binding, where the small atoms have outputs of their own
pub settle_size_small : (s : Sig) (xs : List Atom) → NoDup (small_outs_in xs) → All (λ (u : ℕ). is_var s u ≡ true) (small_outs_in xs)
    → length (words_of tab_words (settle s xs).tabs) + 3 * length (settle s xs).repls + length (small_outs_in xs) ≤ weight xs
settle_size_small s xs once vars = omega (arith, weight_settle s xs, small_words (settle s xs).tabs, small_count s xs once vars)
