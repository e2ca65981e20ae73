-- A key part is spelled by digits of bytes, and stands first in the place.
use Rattle.std.proofs.Common.{◌∙◌, ap, take, length, ◌/◌}
use Rattle.key_cells.specs.Lease.{bench_of}
use Rattle.request_verbs.proofs.KeyDigits.{part_digits, part_room, spelled_first}
use Rattle.request_verbs.proofs.verbs.csnbkpi.put_part.Goals as goal

pub put_key-requires-clause-digits : goal.put_key-requires-clause-digits
put_key-requires-clause-digits c = part_digits c.args.digits.now c.requires

pub put_key-requires-clause-room : goal.put_key-requires-clause-room
put_key-requires-clause-room c = part_room c.args.digits.now c.requires

pub returns-clause-part : goal.returns-clause-part
returns-clause-part c =
    ap (λ lease. take (length c.args.digits.now / 2) (bench_of lease).fresh) c.put_key.ensures.key
    ∙ spelled_first c.args.digits.now _ c.put_key.ensures.size
