-- The part of a signature that settling is given. Assumes nothing: these are definitions.
use Rattle.std.specs.Prelude.{◌≡◌}
use Rattle.rules.specs.Signature.{Sig}
use Rattle.meaning.specs.Signatures.{sig_of}
use Rattle.bodies.specs.declared.terms.Sign.{Sign}

-- a signature with these two numbers
abbrev pub sig : Sign → Sig
sig q = sig_of q.globals q.equals

-- the two numbers are those of a signature
pub record Agrees (q : Sign) (s : Sig) : Type 0 where
  pub globals : q.globals ≡ s.globals
  pub equals : q.equals ≡ s.value_eq
