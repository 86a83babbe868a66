-- `walk::scopes::+field_walk_fields_walk_scope_walk` meets its contract.
use Rattle.std.proofs.Common.{ap, arith, length, refl, rules, sym, ◌∙◌, ◌≡◌}
use Rattle.walk.proofs.Opens.{begun_done, field_done, field_stopped, scope_done, scope_stopped, served_at, served_head, stack_back, stacked_on, stacked_same}
use Rattle.walk.proofs.ScopesLaws.{field_deep, field_fail, field_flat, field_stop, fields_close, fields_end, fields_fail, fields_turn, scope_none, scope_on, scope_refused}
use Rattle.walk.proofs.Used.{head_kept}
use lib.ListN.{length-set}
use Rattle.walk.proofs.scopes.+field_walk_fields_walk_scope_walk.Goals as goal

pub field_walk-returns-then-code_at-ne-OPEN : goal.field_walk-returns-then-code_at-ne-OPEN
field_walk-returns-then-code_at-ne-OPEN t c = (field_flat _ _ _ _ _ _ _ _ _ c.field_rows.ensures _ _ _ c.write_head-walked.ensures.0 _ c.in-Ok.is _ c.code_at.ensures (search rules), (served_head _ _ _ _ _ _ _ _ _ c.in-Ok.is c.write_head-walked.ensures.1 c.requires.0, head_kept _ _ _ _ _ _ _ _ _ c.write_head-walked.ensures.0 _ c.in-Ok.is, refl))

pub field_walk-scope_walk-inside-requires : goal.field_walk-scope_walk-inside-requires
field_walk-scope_walk-inside-requires t c = let p = c.decreases in let d = c.at_depth.ensures.1 in (omega arith, (served_at _ _ _ _ _ _ (ap (λ x. x.used) c.at_depth.ensures.0 ∙ head_kept _ _ _ _ _ _ _ _ _ c.write_head-walked.ensures.0 _ c.in-Ok.is) (served_head _ _ _ _ _ _ _ _ _ c.in-Ok.is c.write_head-walked.ensures.1 c.requires.0), stacked_same _ _ refl c.args.s _ (ap (λ x. x.used) c.at_depth.ensures.0 ∙ head_kept _ _ _ _ _ _ _ _ _ c.write_head-walked.ensures.0 _ c.in-Ok.is) c.at_depth.ensures.1 c.requires.1))

pub field_walk-returns-in-Err : goal.field_walk-returns-in-Err
field_walk-returns-in-Err t c = (field_stop _ _ _ _ _ _ _ _ _ c.field_rows.ensures _ _ _ c.write_head-walked.ensures.0 _ c.in-Err.is, field_stopped _ _ _ _ _ _ _ _ _ c.in-Err.is)

pub field_walk-returns-in-Err-inside : goal.field_walk-returns-in-Err-inside
field_walk-returns-in-Err-inside t c = (field_fail _ _ _ _ _ _ _ _ _ c.field_rows.ensures _ _ _ c.write_head-walked.ensures.0 _ c.in-Ok.is _ c.code_at.ensures (search rules) _ c.at_depth.ensures.0 _ _ _ _ c.scope_walk-inside.ensures.0 _ c.in-Err-inside.is, field_stopped _ _ _ _ _ _ _ _ _ c.in-Err-inside.is)

pub field_walk-returns-in-Ok-inside : goal.field_walk-returns-in-Ok-inside
field_walk-returns-in-Ok-inside t c = (field_deep _ _ _ _ _ _ _ _ _ c.field_rows.ensures _ _ _ c.write_head-walked.ensures.0 _ c.in-Ok.is _ c.code_at.ensures (search rules) _ c.at_depth.ensures.0 _ _ _ _ c.scope_walk-inside.ensures.0 _ c.in-Ok-inside.is _ c.after_scope.ensures, (served_at _ _ _ _ _ _ (sym (ap (λ x. x.used) c.at_depth.ensures.0 ∙ head_kept _ _ _ _ _ _ _ _ _ c.write_head-walked.ensures.0 _ c.in-Ok.is)) (scope_done _ _ _ _ _ _ _ _ c.at_depth.result c.in-Ok-inside.is c.scope_walk-inside.ensures.1).0, ap (λ x. x.used) c.after_scope.ensures ∙ head_kept _ _ _ _ _ _ _ _ _ c.write_head-walked.ensures.0 _ c.in-Ok.is, (scope_done _ _ _ _ _ _ _ _ c.at_depth.result c.in-Ok-inside.is c.scope_walk-inside.ensures.1).1))

pub fields_walk-returns-then-code_at-ne-FIELD : goal.fields_walk-returns-then-code_at-ne-FIELD
fields_walk-returns-then-code_at-ne-FIELD t c = (fields_close _ _ _ _ _ _ _ _ _ _ _ c.loop-turns.invariant.0 c.loop-turns-test.true _ c.code_at.ensures c.if-code_at-ne-FIELD.true _ _ c.closed.ensures, (c.loop-turns.invariant.1, c.loop-turns.invariant.3))

pub fields_walk-loop-turns-preserved : goal.fields_walk-loop-turns-preserved
fields_walk-loop-turns-preserved t c = (fields_turn _ _ _ _ _ _ _ _ _ _ _ c.loop-turns.invariant.0 c.loop-turns-test.true _ c.code_at.ensures c.if-code_at-ne-FIELD.false _ c.begun.ensures.0 _ _ _ _ _ (ap length c.loop-turns.invariant.3) c.field_walk-walked.ensures.0 _ c.in-Ok.is _ (field_done _ _ _ _ _ _ _ _ c.begun.result c.in-Ok.is c.field_walk-walked.ensures.1).2, served_at _ _ _ _ _ _ (sym (ap (λ x. x.used) c.begun.ensures.0 ∙ c.loop-turns.invariant.2)) (field_done _ _ _ _ _ _ _ _ c.begun.result c.in-Ok.is c.field_walk-walked.ensures.1).0, (field_done _ _ _ _ _ _ _ _ c.begun.result c.in-Ok.is c.field_walk-walked.ensures.1).1 ∙ (ap (λ x. x.used) c.begun.ensures.0 ∙ c.loop-turns.invariant.2), (field_done _ _ _ _ _ _ _ _ c.begun.result c.in-Ok.is c.field_walk-walked.ensures.1).2 ∙ c.loop-turns.invariant.3, record { entered = omega (arith, c.field_walk-walked.auto.entered, c.loop-turns.invariant.4.entered); known = omega (arith, c.field_walk-walked.auto.known, c.loop-turns.invariant.4.known); names = omega (arith, c.field_walk-walked.auto.names, c.loop-turns.invariant.4.names); chains = omega (arith, c.field_walk-walked.auto.chains, c.loop-turns.invariant.4.chains); out = omega (arith, c.field_walk-walked.auto.out, c.loop-turns.invariant.4.out) })

pub fields_walk-returns-in-Err : goal.fields_walk-returns-in-Err
fields_walk-returns-in-Err t c = (fields_fail _ _ _ _ _ _ _ _ _ _ _ c.loop-turns.invariant.0 c.loop-turns-test.true _ c.code_at.ensures c.if-code_at-ne-FIELD.false _ c.begun.ensures.0 _ _ _ _ _ (ap length c.loop-turns.invariant.3) c.field_walk-walked.ensures.0 _ c.in-Err.is, scope_stopped _ _ _ _ _ _ _ _ _ c.in-Err.is)

pub fields_walk-returns : goal.fields_walk-returns
fields_walk-returns t c = (fields_end _ _ _ _ _ _ _ _ _ _ _ c.loop-turns.invariant.0 c.loop-turns-test.false, (c.loop-turns.invariant.1, c.loop-turns.invariant.3))

pub scope_walk-returns-then-scopes-depth : goal.scope_walk-returns-then-scopes-depth
scope_walk-returns-then-scopes-depth t c = (scope_none _ _ _ _ _ _ _ _ c.if-scopes-depth.true, (c.requires.0, refl))

pub scope_walk-fields_walk-requires : goal.scope_walk-fields_walk-requires
scope_walk-fields_walk-requires t c = let p = c.decreases in let l = c.if-scopes-depth.false in (omega (arith, length-set c.args.scopes.now c.args.s.depth c.scope_of.result), ((begun_done _ _ _ _ _ _ c.args.s c.in_ok-p.was c.begin.ensures.1).0, stacked_on _ c.args.s _ _ _ _ c.scope_of.ensures (let g = c.well_formed in let l = c.if-scopes-depth.false in search rules) (begun_done _ _ _ _ _ _ c.args.s c.in_ok-p.was c.begin.ensures.1).1 refl refl c.requires.1))

pub scope_walk-returns-in_err-p : goal.scope_walk-returns-in_err-p
scope_walk-returns-in_err-p t c = (search (scope_refused, rules), search rules)

pub scope_walk-returns-in_err-t : goal.scope_walk-returns-in_err-t
scope_walk-returns-in_err-t t c = (let q : c.fields_walk.result ≡ c.from_residual-in_err-t.result = search rules in rw (← q) (scope_on _ _ _ _ _ _ _ _ c.if-scopes-depth.false _ _ _ c.begin.ensures.0 _ c.in_ok-p.was _ c.scope_name.ensures _ c.scope_of.ensures _ _ c.copy_row-to.ensures _ c.row_number.ensures _ (length-set c.args.scopes.now c.args.s.depth c.scope_of.result) _ c.fields_walk.ensures.0), search rules)

pub scope_walk-returns : goal.scope_walk-returns
scope_walk-returns t c = (rw (← c.in_ok-t.was) (scope_on _ _ _ _ _ _ _ _ c.if-scopes-depth.false _ _ _ c.begin.ensures.0 _ c.in_ok-p.was _ c.scope_name.ensures _ c.scope_of.ensures _ _ c.copy_row-to.ensures _ c.row_number.ensures _ (length-set c.args.scopes.now c.args.s.depth c.scope_of.result) _ c.fields_walk.ensures.0), (record { free = (scope_done _ _ _ _ _ _ _ _ _ c.in_ok-t.was c.fields_walk.ensures.1).0.free; held = c.leave.ensures }, stack_back _ _ _ _ _ (scope_done _ _ _ _ _ _ _ _ _ c.in_ok-t.was c.fields_walk.ensures.1).1))
