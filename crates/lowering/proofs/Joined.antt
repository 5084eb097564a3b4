-- Both walks over one rule. What is known at a step of `to_core_rule` is a record over the words before and after it: `Begun`, `Flattened`, `Ready`,
-- `Headed`. The laws of each say what the next step asks, and each way out. Assumes nothing.
use mathlib.Core.Path.{◌≡◌, refl, sym, ap, ◌∙◌, subst}
use mathlib.Core.List.{List}
use Prim.Native.Nat.{ℕ, ◌+◌, ◌-◌, ◌*◌, ◌^◌, ◌≤◌, ◌<◌}
use native.Mathlib.Omega.{arith}
use lib.ListN.{length, get_or}
use Rattle.octets.proofs.Splice.{part_same}
use Rattle.rules.specs.Words.{signature_base, facts_of, actions_of}
use Rattle.rules.specs.Refusals.{Res, ok, refuse, ◌>>=◌}
use Rattle.rules.specs.Signature.{Sig, read_signature}
use Rattle.rules.specs.Written.{Rule, read_action, read_row, read_written}
use Rattle.rules.specs.Flat.{atom_words, words_of}
use Rattle.rules.specs.ToQuery.{Query, to_query, body_vars}
use Rattle.rules.specs.ToCoreActions.{Done, CoreRule, to_core_actions, to_core_rule}
use Rattle.meaning.proofs.Results.{ok_inj}
use Rattle.std.specs.Prelude.{Result, Ok, Err}
use Rattle.walks.specs.Steps.{Kept, tops, log_of, Walked, NoTerms, Room, Counted}
use Rattle.walks.specs.declared.Walk.{Walk}
use Rattle.walks.specs.declared.Stopped.{Stopped}
use Rattle.walks.proofs.Asks.{counted_kept}
use Rattle.walks.proofs.Frames.{kept_wide, kept_then, restored}
use Rattle.walks.proofs.Steps.{Went, went}
use Rattle.walks.proofs.Read.{moved}
use Rattle.query.specs.Flattened.{query_piece, query, FactsAt}
use Rattle.head_exprs.specs.Scopes.{first_scope, Scoped, ScopeRoom, Names}
use Rattle.head_exprs.specs.declared.scope.Scope.{Scope}
use Rattle.head_exprs.proofs.Body.{scope_first}
use Rattle.actions.specs.Acts.{done_piece, walk_of, Gave}
use Rattle.core_actions.specs.Rows.{ActionsAt}
use Rattle.actions.specs.declared.Acted.{Acted}
use Rattle.lowering.specs.Lowered.{Good, LowersBoth}
use Rattle.lowering.specs.declared.Lowering.{Lowering}
use Rattle.lowering.proofs.SignatureWords.{SignatureWords, signature_words}
use Rattle.lowering.proofs.RuleWords.{RuleWords, rule_words}
use Rattle.lowering.proofs.BodySizes.{query_small}

-- what is read is read once: a law of the signature and the rule that are known is one of any that are read
pub same_read : {gs ws cs : List ℕ} {room : ℕ} (P : Sig → Rule → Type 0) (g : Good gs ws cs room) (sig : Sig) (r : Rule)
    → read_signature gs ≡ ok sig → read_written sig ws ≡ ok r → P g.sig g.rule → P sig r
same_read {gs} {ws} P g sig r es er p =
    let a : g.sig ≡ sig = ok_inj _ _ (sym g.signed ∙ es) in
    let here : read_written g.sig ws ≡ ok r = ap (λ (x : Sig). read_written x ws) a ∙ er in
    let b : g.rule ≡ r = ok_inj _ _ (sym g.written ∙ here) in
    subst (λ (x : Sig). P x r) a (subst (P g.sig) b p)

-- ---- the words are counted, n, and the header is read, w

pub record Begun (gs ws cs s : List ℕ) (n w : ℕ) : Type 0 where
  pub good : Good gs ws cs (length s)
  pub long : n ≡ length ws
  pub roomy : 31 * n ≤ length s
  pub fits : 31 * n < 2 ^ 64
  pub read : RuleWords good.sig ws good.rule w
  pub signature : SignatureWords good.sig gs
  pub counted : Counted good.sig cs

pub begun : {gs ws cs s : List ℕ} {n : ℕ} → Good gs ws cs (length s) → length s < 2 ^ 64 → n ≡ length ws → Begun gs ws cs s n (get_or ws 0 0)
begun {gs} {ws} g addressable long =
    let sw = signature_words g.sig gs g.signed in
    record {
      good = g;
      long = long;
      roomy = omega (arith, g.scratch);
      fits = omega (arith, g.scratch);
      read = rule_words g.sig ws g.rule g.written;
      signature = sw;
      counted = record { few = sw.few; fits = g.counters };
    }

-- what the contract says of an answer
abbrev pub Answers : (gs ws cs s' cs' : List ℕ) → Result Lowering Stopped → Type 0
Answers gs ws cs s' cs' res =
    (sig : Sig) (r : Rule) → read_signature gs ≡ ok sig → read_written sig ws ≡ ok r → LowersBoth (to_core_rule sig r cs) (length ws) cs s' cs' res

-- the results of the two walks together
abbrev both : Query → Done → Res CoreRule
both q d = ok (record { body = q.atoms; head = d.acts; next = d.next })

module _ {gs ws cs s : List ℕ} {n w : ℕ} (k : Begun gs ws cs s n w) where
  abbrev pub Facts : FactsAt k.good.sig ws (facts_of w) 1
  Facts = k.read.facts

  abbrev pub Actions : ActionsAt k.good.sig ws (actions_of w) (1 + k.read.facts.size)
  Actions = k.read.actions

  pub body_room : Room (length ws) 1 (tops 0 (28 * n) (30 * n)) (length s)
  body_room = record { words = omega arith; stack = omega arith; log = omega arith }

  -- the walk over the body that gives x
  abbrev BodyWalk : List ℕ → List ℕ → Result Walk Stopped → Res Query → Type 0
  BodyWalk s1 cs1 b x = Walked 0 NoTerms (query_piece x) Facts.size 1 0 (28 * n) (30 * n) s cs s1 cs1 b

  abbrev then_head : Query → Res CoreRule
  then_head q = ◌>>=◌ (to_core_actions k.good.sig (body_vars k.good.sig q.atoms) Actions.value q.next) (both q)

  answers : (s' cs' : List ℕ) (res : Result Lowering Stopped) → LowersBoth (◌>>=◌ (to_query Facts.value cs) then_head) n cs s' cs' res → Answers gs ws cs s' cs' res
  answers s' cs' res h sig r es er =
      same_read (λ x y. LowersBoth (to_core_rule x y cs) (length ws) cs s' cs' res) k.good sig r es er
      (subst (λ (i : ℕ). LowersBoth (to_core_rule k.good.sig k.good.rule cs) i cs s' cs' res) k.long
      (subst (λ (y : Rule). LowersBoth (to_core_rule k.good.sig y cs) n cs s' cs' res) (λ i. record { facts = k.read.facts_are i; actions = k.read.actions_are i }) h))

-- ---- the body is flattened with the answer r, which leaves s1 and cs1

pub record Flattened (gs ws cs s : List ℕ) (n w : ℕ) (s1 cs1 : List ℕ) (r : Result Walk Stopped) : Type 0 where
  pub begun : Begun gs ws cs s n w
  pub walk : Walked 0 NoTerms (query begun.read.facts.value cs) begun.read.facts.size 1 0 (28 * n) (30 * n) s cs s1 cs1 r
  pub scratch : length s1 ≡ length s
  pub counters : length cs1 ≡ length cs
  pub roomy : 31 * n ≤ length s1
  pub log_from : 30 * n ≤ log_of r
  pub log_to : log_of r ≤ 31 * n

module _ {gs ws cs s : List ℕ} {n w : ℕ} {s1 cs1 : List ℕ} where
  pub flattened : (k : Begun gs ws cs s n w) {r : Result Walk Stopped} → length s1 ≡ length s → length cs1 ≡ length cs
      → Walked 0 NoTerms (query k.read.facts.value cs) k.read.facts.size 1 0 (28 * n) (30 * n) s cs s1 cs1 r → Flattened gs ws cs s n w s1 cs1 r
  flattened k es ec walk =
      let i = k.read.facts.inside in
      record {
        begun = k;
        walk = walk;
        scratch = es;
        counters = ec;
        roomy = omega (arith, k.roomy);
        log_from = omega (arith, walk.kept.up_to);
        log_to = omega (arith, walk.kept.in_log);
      }

  told : {r : Result Walk Stopped} (f : Flattened gs ws cs s n w s1 cs1 r) → BodyWalk f.begun s1 cs1 r (to_query (Facts f.begun).value cs)
  unfolding query
  told f = f.walk

  -- the body is refused
  pub body_halted : {e : Stopped} → Flattened gs ws cs s n w s1 cs1 (Err e) → Answers gs ws cs s1 cs1 (Err e)
  body_halted {e} f = answers k s1 cs1 (Err e) (go (to_query (Facts k).value cs) (told f))
    where
      k : Begun gs ws cs s n w
      k = f.begun

      go : (x : Res Query) → BodyWalk k s1 cs1 (Err e) x → LowersBoth (◌>>=◌ x (then_head k)) n cs s1 cs1 (Err e)
      go (ok q) z = absurd z.ended
      go (refuse m p) z = record { refuses = z.ended; from = f.log_from; within = omega (arith, f.log_to, f.roomy); undo = restored z.kept }

-- ---- the body is fine, b, and the globals are counted: g

pub record Ready (gs ws cs s : List ℕ) (n w : ℕ) (s1 cs1 : List ℕ) (b : Walk) (g : ℕ) : Type 0 where
  pub flat : Flattened gs ws cs s n w s1 cs1 (Ok b)
  pub globals : g ≡ get_or gs 1 0 - signature_base

-- the word of the globals is read as v
pub ready : {gs ws cs s : List ℕ} {n w v : ℕ} {s1 cs1 : List ℕ} {b : Walk} → Flattened gs ws cs s n w s1 cs1 (Ok b)
    → v ≡ get_or gs 1 0 → Ready gs ws cs s n w s1 cs1 b (v - signature_base)
ready f is = record { flat = f; globals = ap (λ (u : ℕ). u - signature_base) is }

module _ {gs ws cs s : List ℕ} {n w : ℕ} {s1 cs1 : List ℕ} {b : Walk} {g : ℕ} (y : Ready gs ws cs s n w s1 cs1 b g) where
  abbrev f : Flattened gs ws cs s n w s1 cs1 (Ok b)
  f = y.flat

  abbrev k : Begun gs ws cs s n w
  k = y.flat.begun

  abbrev scope : Scope
  scope = first_scope g b.to (28 * n)

  pub body_went : Went 0 (Facts k).size 1 0 (30 * n) b
  body_went = went (query_piece (to_query (Facts k).value cs)) (told f)

  abbrev pub actions_at : ActionsAt k.good.sig ws (actions_of w) b.next
  actions_at = moved (read_row (read_action k.good.sig ws) (actions_of w)) ws (1 + (Facts k).size) b.next (sym body_went.next) (Actions k)

  scoped : (q : Query) → to_query (Facts k).value cs ≡ ok q → BodyWalk k s1 cs1 (Ok b) (ok q) → Scoped k.good.sig (body_vars k.good.sig q.atoms) s1 scope
  scoped q is z =
      let sw = k.signature in
      let o = z.ended.0 in
      let same : length (words_of atom_words q.atoms) ≡ b.to = omega (arith, o.to) in
      let plain = (query_small k.good.sig ws sw.few (facts_of w) 1 (Facts k) cs q is).plain in
      subst (λ (t : ℕ). Scoped k.good.sig (body_vars k.good.sig q.atoms) s1 (record { globals = g; body = t; first = 28 * n; names = 0 })) same
      (scope_first k.good.sig q.atoms s1 g (28 * n) plain (omega (arith, sw.globals)) (omega (arith, sw.globals, sw.few_globals)) o.written)

  pub names_at : Names k.good.sig s1 scope
  names_at = go (to_query (Facts k).value cs) refl (told f)
    where
      go : (x : Res Query) → to_query (Facts k).value cs ≡ x → BodyWalk k s1 cs1 (Ok b) x → Names k.good.sig s1 scope
      go (ok q) is z = record { bound = body_vars k.good.sig q.atoms; scoped = scoped q is z }
      go (refuse m p) is z = absurd z.ended

  pub head_counted : Counted k.good.sig cs1
  head_counted = counted_kept k.counted f.counters

  pub head_room : Room (length ws) b.next (tops (24 * n) (28 * n + 0) b.log) (length s1)
  head_room =
      let u = body_went in
      let nx = u.next in
      let lf = u.log_from in
      let lu = u.log_up_to in
      record { words = omega arith; stack = omega arith; log = omega arith }

  pub head_scope_room : ScopeRoom (length ws) b.next (24 * n) (28 * n + 0) scope
  head_scope_room =
      let sw = k.signature in
      let u = body_went in
      let i = (Facts k).inside in
      let nx = u.next in
      let up = u.up_to in
      record { few = omega (arith, sw.globals, sw.few_globals); body = omega arith; names = omega arith; top = omega arith }

  -- the walk over the head that gives x
  abbrev HeadWalk : List ℕ → List ℕ → Result Acted Stopped → Res Done → ℕ → Type 0
  HeadWalk s2 cs2 r x size = Walked 0 (Gave r) (done_piece x) size b.next (24 * n) (28 * n + 0) b.log s1 cs1 s2 cs2 (walk_of r)

-- what the contract of that walk says under a scope, with the answer h, where s2 and cs2 are left
abbrev pub LowerUnder : {gs ws cs s : List ℕ} {n w : ℕ} {s1 cs1 : List ℕ} {b : Walk} {g : ℕ} → Ready gs ws cs s n w s1 cs1 b g → (s2 cs2 : List ℕ)
    → Result Acted Stopped → Scope → Type 0
LowerUnder {ws = ws} {n = n} {w = w} {s1 = s1} {cs1 = cs1} {b = b} y s2 cs2 h c =
    (x : ActionsAt y.flat.begun.good.sig ws (actions_of w) b.next) (bound : List ℕ) → Scoped y.flat.begun.good.sig bound s1 c
    → Walked 0 (Gave h) (done_piece (to_core_actions y.flat.begun.good.sig bound x.value cs1)) x.size b.next (24 * n) (c.first + c.names) b.log
    s1 cs1 s2 cs2 (walk_of h)

-- ---- the head is lowered with the answer h, which leaves s2 and cs2

pub record Headed (gs ws cs s : List ℕ) (n w : ℕ) (s1 cs1 : List ℕ) (b : Walk) (g : ℕ) (s2 cs2 : List ℕ) (h : Result Acted Stopped) : Type 0 where
  pub ready : Ready gs ws cs s n w s1 cs1 b g
  pub lower : LowerUnder ready s2 cs2 h (scope ready)
  pub roomy : 31 * n ≤ length s2
  pub kept : let size = (Actions ready.flat.begun).size in
      Kept (24 * n) (24 * n + 4 * size) (28 * n + 0) (28 * n + 0 + size) b.log (b.log + size) s1 cs1 s2 cs2 (log_of (walk_of h))
  pub whole : Kept 0 (28 * n) (28 * n) (30 * n) (30 * n) (31 * n) s cs s2 cs2 (log_of (walk_of h))
  pub log_from : 30 * n ≤ log_of (walk_of h)
  pub log_to : log_of (walk_of h) ≤ 31 * n

pub headed : {gs ws cs s : List ℕ} {n w : ℕ} {s1 cs1 : List ℕ} {b : Walk} {g : ℕ} (y : Ready gs ws cs s n w s1 cs1 b g) {s2 cs2 : List ℕ}
    {h : Result Acted Stopped} {c : Scope} → c ≡ scope y → length s2 ≡ length s1 → LowerUnder y s2 cs2 h c → Headed gs ws cs s n w s1 cs1 b g s2 cs2 h
headed {cs = cs} {s = s} {n = n} y {s2} {cs2} {h} is es under =
    let k = y.flat.begun in
    let lower : LowerUnder y s2 cs2 h (scope y) = subst (LowerUnder y s2 cs2 h) is under in
    let kept = (lower (actions_at y) (names_at y).bound (names_at y).scoped).kept in
    let u = body_went y in
    let i = (Actions k).inside in
    let lu = u.log_up_to in
    let lf = u.log_from in
    let whole : Kept 0 (28 * n) (28 * n) (30 * n) (30 * n) (31 * n) s cs s2 cs2 (log_of (walk_of h)) =
    kept_then (omega arith)
    (kept_wide 0 (28 * n) (28 * n) (30 * n) (31 * n) y.flat.walk.kept (omega arith) (omega arith) (omega arith) (omega arith) (omega arith))
    (kept_wide 0 (28 * n) (28 * n) (30 * n) (31 * n) kept (omega arith) (omega arith) (omega arith) (omega arith) (omega arith))
    in
    record {
      ready = y;
      lower = lower;
      roomy = omega (arith, y.flat.roomy);
      kept = kept;
      whole = whole;
      log_from = omega (arith, whole.up_to);
      log_to = whole.in_log;
    }

module _ {gs ws cs s : List ℕ} {n w : ℕ} {s1 cs1 : List ℕ} {b : Walk} {g : ℕ} {s2 cs2 : List ℕ} {h : Result Acted Stopped}
    (m : Headed gs ws cs s n w s1 cs1 b g s2 cs2 h) where
  abbrev base : Begun gs ws cs s n w
  base = m.ready.flat.begun

  -- by what the body gave, then by what the head did
  by_cases : (res : Result Lowering Stopped)
      → ((q : Query) → to_query (Facts base).value cs ≡ ok q → BodyWalk base s1 cs1 (Ok b) (ok q) → (x : Res Done) → HeadWalk m.ready s2 cs2 h x (Actions base).size
      → LowersBoth (◌>>=◌ x (both q)) n cs s2 cs2 res) → Answers gs ws cs s2 cs2 res
  by_cases res then = answers base s2 cs2 res (go (to_query (Facts base).value cs) refl (told m.ready.flat))
    where
      go : (x : Res Query) → to_query (Facts base).value cs ≡ x → BodyWalk base s1 cs1 (Ok b) x → LowersBoth (◌>>=◌ x (then_head base)) n cs s2 cs2 res
      go (refuse m p) is z = absurd z.ended
      go (ok q) is z =
          let next : cs1 ≡ q.next = z.ended.0.counters in
          let bound = body_vars base.good.sig q.atoms in
          let there = m.lower (actions_at m.ready) bound (scoped m.ready q is z) in
          then q is z (to_core_actions base.good.sig bound (Actions base).value q.next)
          (subst (λ (l : List ℕ). HeadWalk m.ready s2 cs2 h (to_core_actions base.good.sig bound (Actions base).value l) (Actions base).size) next there)

module _ {gs ws cs s : List ℕ} {n w : ℕ} {s1 cs1 : List ℕ} {b : Walk} {g : ℕ} {s2 cs2 : List ℕ} where
  -- the head is refused
  pub head_halted : {e : Stopped} → Headed gs ws cs s n w s1 cs1 b g s2 cs2 (Err e) → Answers gs ws cs s2 cs2 (Err e)
  head_halted {e} m = by_cases m (Err e) (λ q c z x u. go q x u)
    where
      go : (q : Query) (x : Res Done) → HeadWalk m.ready s2 cs2 (Err e) x (Actions (base m)).size → LowersBoth (◌>>=◌ x (both q)) n cs s2 cs2 (Err e)
      go q (ok d) u = absurd u.ended
      go q (refuse n p) u = record { refuses = u.ended; from = m.log_from; within = omega (arith, m.log_to, m.roomy); undo = restored m.whole }

  -- it is fine, h
  pub head_ends : {h : Acted} → Headed gs ws cs s n w s1 cs1 b g s2 cs2 (Ok h) → 24 * n ≤ h.to
  head_ends m =
      let names = names_at m.ready in
      (went (done_piece (to_core_actions (base m).good.sig names.bound (Actions (base m)).value cs1)) (m.lower (actions_at m.ready) names.bound names.scoped)).from

  pub both_done : {h : Acted} → Headed gs ws cs s n w s1 cs1 b g s2 cs2 (Ok h)
      → Answers gs ws cs s2 cs2 (Ok (record { body = b.to; head = h.to - 24 * n; actions = h.count; log = h.log - 30 * n }))
  both_done {h} m = by_cases m _ (λ q is z x u. go q is z x u)
    where
      here : Begun gs ws cs s n w
      here = base m

      go : (q : Query) → to_query (Facts here).value cs ≡ ok q → BodyWalk here s1 cs1 (Ok b) (ok q) → (x : Res Done)
          → HeadWalk m.ready s2 cs2 (Ok h) x (Actions here).size
          → LowersBoth (◌>>=◌ x (both q)) n cs s2 cs2 (Ok (record { body = b.to; head = h.to - 24 * n; actions = h.count; log = h.log - 30 * n }))
      go q is z (refuse n p) u = absurd u.ended
      go q is z (ok d) u =
          let o = z.ended.0 in
          let v = u.ended.0 in
          let i = (Facts here).inside in
          let j = (Actions here).inside in
          let few = (query_small here.good.sig ws here.signature.few (facts_of w) 1 (Facts here) cs q is).words in
          let ot = o.to in
          let vt = v.to in
          let vf = v.fits in
          let size = m.whole.size in
          record {
            body = omega arith;
            body_there =
                record {
                  within = omega arith;
                  words = part_same s1 s2 0 (length (words_of atom_words q.atoms)) m.kept.size (λ p a c. m.kept.below p (omega arith)) ∙ o.written;
                };
            body_fits = omega arith;
            head = omega arith;
            head_there = record { within = omega arith; words = v.written };
            head_fits = omega arith;
            actions = sym u.ended.1;
            counters = v.counters;
            log = omega (arith, m.whole.counts, m.log_from);
            log_fits = omega (arith, m.log_to);
            undo = restored m.whole;
          }

-- ---- a refusal: where its log lies

pub log_lies : (n : ℕ) (cs s' cs' : List ℕ) (e : Stopped) (x : Res CoreRule) → LowersBoth x n cs s' cs' (Err e) → (30 * n ≤ e.log) × (e.log ≤ length s')
log_lies n cs s' cs' e (ok c) z = absurd z
log_lies n cs s' cs' e (refuse m p) z = (z.from, z.within)
