use mathlib.Core.Path.{refl}
use Rattle.elements.specs.Octets.{double}
use Rattle.elements.proofs.TableRules.{run, power_read}
use Rattle.elements.proofs.octet.power_of.Goals as goal

pub returns : goal.returns
unfolding run double
returns c = power_read _ 510 refl c.args.i c.requires
