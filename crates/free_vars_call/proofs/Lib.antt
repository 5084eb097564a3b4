pub mod FreeVars
