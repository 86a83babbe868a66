pub mod LevelLaws
