use Rattle.sheet_reader.proofs.Whole.{setup-path, setup-cells, found-setup, found-refused, message-short, message-told}
use mathlib.Core.Path.{sym}
use lib.Seq.{length-take-le}
use Rattle.sheet_reader.proofs.read.Goals as goal

pub returns-then-path-ne16 : goal.returns-then-path-ne16
returns-then-path-ne16 c = setup-path _ _ _ _ c.if-path-ne16.true

pub returns-then-crosspoints-ne-MOST : goal.returns-then-crosspoints-ne-MOST
returns-then-crosspoints-ne-MOST c = setup-cells _ _ _ _ c.if-path-ne16.false c.if-crosspoints-ne-MOST.true

pub slice_bounds-of_message-end-in-Message : goal.slice_bounds-of_message-end-in-Message
slice_bounds-of_message-end-in-Message c = sym (length-take-le _ _ c.front-n.ensures.upper_bound)

pub of_message-requires : goal.of_message-requires
of_message-requires c =
    let a = c.args in
    let short = message-short a.text.now a.store.now a.path.now a.crosspoints.now c.if-path-ne16.false c.if-crosspoints-ne-MOST.false
    _ _ c.find_message.ensures _ c.in-Message.is c.front-n.result c.front-n.ensures.store_value in record {
      m_len_bound = short;
      path_len = (c.if-path-ne16.false, c.if-crosspoints-ne-MOST.false);
    }

pub returns-in-Setup : goal.returns-in-Setup
returns-in-Setup c = found-setup _ _ _ _ c.if-path-ne16.false c.if-crosspoints-ne-MOST.false _ _ c.find_message.ensures c.in-Setup.is

pub returns-in-Refused : goal.returns-in-Refused
returns-in-Refused c = found-refused _ _ _ _ c.if-path-ne16.false c.if-crosspoints-ne-MOST.false _ _ c.find_message.ensures _ c.in-Refused.is

pub returns-in-Message : goal.returns-in-Message
returns-in-Message c =
    let a = c.args in
    message-told a.text.now a.store.now a.path.now a.crosspoints.now c.if-path-ne16.false c.if-crosspoints-ne-MOST.false
    _ _ c.find_message.ensures _ c.in-Message.is c.front-n.result c.front-n.ensures.store_value
    c.of_message.result c.of_message.new.path c.of_message.new.crosspoints c.of_message.ensures
