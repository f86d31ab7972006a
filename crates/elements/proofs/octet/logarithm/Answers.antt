use mathlib.Core.Path.{refl}
use borrow.Author.Rules.{rules}
use Rattle.elements.specs.Octets.{double}
use Rattle.elements.proofs.TableRules.{sets, logarithms, logarithm_read}
use Rattle.elements.proofs.octet.logarithm.Goals as goal

pub returns : goal.returns
unfolding logarithms sets double
returns c = logarithm_read logarithms refl c.args.a c.requires (search rules)
