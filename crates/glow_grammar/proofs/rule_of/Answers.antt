use Rattle.glow_grammar.specs.Grammar.{members, rule_of}
use Rattle.glow_grammar.proofs.Tables.{rule-row, rule-none}
use Rattle.glow_grammar.proofs.rule_of.Goals as goal

pub returns-in-1 : goal.returns-in-1
unfolding rule_of members
returns-in-1 c = rule-row _ c.in-1.is c.of_element.ensures

pub returns-in-2 : goal.returns-in-2
returns-in-2 c = rule-row _ c.in-2.is c.of_command.ensures

pub returns-in-3 : goal.returns-in-3
unfolding rule_of members
returns-in-3 c = rule-row _ c.in-3.is c.of_element-in-3.ensures

pub returns-in-4 : goal.returns-in-4
unfolding rule_of members
returns-in-4 c = rule-row _ c.in-4.is c.of_matrix.ensures

pub returns-in-5 : goal.returns-in-5
unfolding rule_of members
returns-in-5 c = rule-row _ c.in-5.is c.of_element-in-5.ensures

pub returns-in-6 : goal.returns-in-6
unfolding rule_of members
returns-in-6 c = rule-row _ c.in-6.is c.of_element-in-6.ensures

pub returns-in-7 : goal.returns-in-7
unfolding rule_of members
returns-in-7 c = rule-row _ c.in-7.is c.of_matrix-in-7.ensures

pub returns-in-8 : goal.returns-in-8
returns-in-8 c = rule-row _ c.in-8.is c.of_connection.ensures

pub returns-in-9 : goal.returns-in-9
returns-in-9 c = rule-row _ c.in-9.is c.of_stream_entry.ensures

pub returns-in-10 : goal.returns-in-10
returns-in-10 c = rule-row _ c.in-10.is c.of_parameter.ensures

pub returns-in-11 : goal.returns-in-11
returns-in-11 c = rule-row _ c.in-11.is c.of_node.ensures

pub returns-in-12 : goal.returns-in-12
returns-in-12 c = rule-row _ c.in-12.is c.of_matrix_contents.ensures

pub returns-in_default : goal.returns-in_default
unfolding members
returns-in_default c =
    let r = c.in_default.in_default-own.rest in
    let m = r.0.0.0.0 in
    let u = m.0.0.0.0 in
    rule-none _ _
    (u.0.0.0.1, (u.0.0.1, (u.0.1, (u.1, (m.0.0.0.1, (m.0.0.1, (m.0.1, (m.1, (r.0.0.0.1, (r.0.0.1, (r.0.1, (r.1, tt))))))))))))
