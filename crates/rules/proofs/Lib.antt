-- What is proved of all this.
pub mod Laws
