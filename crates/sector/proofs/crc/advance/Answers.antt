use Rattle.std.proofs.Common.{sym, rules}
use Rattle.sector.proofs.Window.{advanced, share1, share2, share3, share4, advance_is}
use Rattle.sector.proofs.crc.advance.Goals as goal

pub returns : goal.returns
unfolding advanced share1 share2 share3 share4
returns c = λ chunk rest loads long. sym (advance_is c.args.s.now chunk rest c.args.word c.told-s (search rules) (search rules) loads long)
