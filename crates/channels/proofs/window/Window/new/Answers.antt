use Rattle.channels.proofs.window.Window.new.Goals as goal

pub returns-clause-packing : goal.returns-clause-packing
returns-clause-packing c = rw c.in_ok-open.was at c.open.ensures.packing

pub returns-clause-room : goal.returns-clause-room
returns-clause-room c = rw c.in_ok-open.was at c.open.ensures.room
