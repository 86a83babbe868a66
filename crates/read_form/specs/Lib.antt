-- What must be believed: a form by itself, as a tree or refused.
pub mod ReadForm
