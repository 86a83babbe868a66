-- Step A, step B, and both.
pub mod EnterAgrees
pub mod PlanTables
pub mod PlanOperands
pub mod PlanField
pub mod PlanAgrees
pub mod BeginAgrees
