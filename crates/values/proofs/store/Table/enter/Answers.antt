use Rattle.std.proofs.Common.{sym}
use Rattle.values.specs.Table.{content_value}
use Rattle.values.specs.Memory.{values}
use Rattle.values.proofs.Findings.{found, missing, enters_old, enters_new, enters_full}
use Rattle.values.proofs.store.Table.enter.Goals as goal

pub returns-in-Ok : goal.returns-in-Ok
returns-in-Ok c =
    let t = c.args.self.now in
    let f = c.in-Ok.ensures in
    enters_old (content_value (values t) c.args.content) (values t) c.in-Ok.number (found t c.args.content c.in-Ok.number f.0 f.1)

pub returns-in-Err : goal.returns-in-Err
returns-in-Err c =
    let t = c.args.self.now in
    enters_new (content_value (values t) c.args.content) (values t) (values c.push.new.self) c.push.result (missing t c.args.content c.in-Err.place c.requires.known c.in-Err.ensures) (sym c.if-has_room.ensures) c.push.ensures.after c.push.ensures.number

pub returns-in-Err-2 : goal.returns-in-Err-2
returns-in-Err-2 c =
    let t = c.args.self.now in
    enters_full (content_value (values t) c.args.content) (values t) (missing t c.args.content c.in-Err.place c.requires.known c.in-Err.ensures) (sym c.if-has_room.ensures)
