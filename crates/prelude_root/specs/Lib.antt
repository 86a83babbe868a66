-- What the contracts cite: how the declarations of a root are entered.
pub mod Root
