pub mod OneState
