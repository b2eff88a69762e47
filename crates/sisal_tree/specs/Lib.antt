pub use Rattle.sisal_lex.specs.declared.token.Word
pub use Rattle.sisal_lex.specs.declared.token.Sign
pub use Rattle.sisal_lex.specs.declared.token.Kind
pub use Rattle.sisal_lex.specs.declared.token.Token
pub use Rattle.sisal_lex.specs.Words
pub mod Depth
