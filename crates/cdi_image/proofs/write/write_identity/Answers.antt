-- Each cell is put behind those before it, since each is as long as its type says.
use Rattle.std.proofs.Common.{◌≡◌, length, arith, rules}
use Rattle.cdi_image.specs.Put.{Put}
use Rattle.cdi_image.proofs.Puts.{put-behind}
use Rattle.cdi_image.proofs.write.write_identity.Goals as goal

pub returns : goal.returns
returns c =
    let q = c.args.stored.now in
    let long1 : length q.name ≡ 17 = search rules in
    let long2 : length q.firmware ≡ 3 = search rules in
    let long3 : length q.serial ≡ 4 = search rules in
    let long4 : length q.address ≡ 4 = search rules in
    let name : Put c.args.contents.now 0 q.name 17 c.put.new.buffer = record { ends = omega arith; stored = c.put.ensures } in
    let firmware : Put c.put.new.buffer 17 q.firmware 20 c.put-2.new.buffer = record { ends = omega arith; stored = c.put-2.ensures } in
    let serial : Put c.put-2.new.buffer 20 q.serial 24 c.put-3.new.buffer = record { ends = omega arith; stored = c.put-3.ensures } in
    let address : Put c.put-3.new.buffer 24 q.address 28 c.put-4.new.buffer = record { ends = omega arith; stored = c.put-4.ensures } in
    put-behind (put-behind (put-behind name firmware) serial) address
