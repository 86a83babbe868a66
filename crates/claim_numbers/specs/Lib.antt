-- What the contracts cite: how declarations are counted, and entered.
pub mod Count
pub mod Enter
